-- Completion codes (xHCI 1.2, 6.4.5): how the controller tells that a transfer ended, or was stopped.
use Rattle.std.specs.Prelude.{ℕ}

abbrev pub success : ℕ
success = 1

-- the device sent more than there was room for
abbrev pub babble_detected : ℕ
babble_detected = 3

-- USB Transaction Error: all retries failed
abbrev pub transaction_error : ℕ
transaction_error = 4

-- the device's endpoint is halted
abbrev pub stall_error : ℕ
stall_error = 6

-- fewer bytes came than were asked for
abbrev pub short_packet : ℕ
short_packet = 13

-- a command came while the endpoint was in another state than it needs
abbrev pub context_state_error : ℕ
context_state_error = 19

-- the endpoint was stopped amid the transfer
abbrev pub stopped : ℕ
stopped = 26
