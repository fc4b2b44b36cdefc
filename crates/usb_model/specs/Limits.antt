-- The limits of transfers and of scripts (our own).
use Rattle.std.specs.Prelude.{ℕ}

-- the most bytes of a transfer
abbrev pub most_bytes : ℕ
most_bytes = 262144

-- the places of an endpoint: its line, and its results that aren't taken
abbrev pub most_places : ℕ
most_places = 16

-- the number that no transfer has, since none would be behind it: 2^64 - 1
abbrev pub last_number : ℕ
last_number = 18446744073709551615

-- the most answers of a script
abbrev pub longest_script : ℕ
longest_script = 65536

-- the most bytes of a packet of a script
abbrev pub largest_packet : ℕ
largest_packet = 2048
