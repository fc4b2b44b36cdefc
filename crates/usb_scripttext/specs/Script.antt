-- What an endpoint of a device answers, as words say it.
use Rattle.std.specs.Prelude.{ℕ, nat_le, nat_lt, ◌&&◌, List, [], ◌∷◌, codes, length, Option, Some, None, if◌then◌else◌}
use Rattle.std.specs.Option.{option_map, option_and_then}
use Rattle.std.specs.Str.{bytes_eq}
use Rattle.usb_model.specs.declared.response.Response.{Response}
use Rattle.usb_model.specs.declared.response.Response.TheVariants as response
use Rattle.usb_model.specs.Limits.{largest_packet, longest_script}
use Rattle.usb_model.specs.Setup.{is_in}
use Rattle.usb_scripttext.specs.declared.script.EndpointAnswers.{EndpointAnswers}
use Rattle.usb_scripttext.specs.ExpectedPacket.{expected_packet_of}
use Rattle.usb_scripttext.specs.Number.{address_of, bytes_of, device_of}
use Rattle.usb_scripttext.specs.Prefix.{behind}
use Rattle.usb_scripttext.specs.Repeats.{written_out}

-- what each of some words says, where each says something
unfoldable pub each_of : {A : Type 0} → (List ℕ → Option A) → List (List ℕ) → Option (List A)
each_of f [] = Some []
each_of f (word ∷ words) = option_and_then (λ x. option_map (λ xs. x ∷ xs) (each_of f words)) (f word)

-- a packet of at most so many bytes
unfoldable pub packet_of : List ℕ → Option Response
packet_of digits = option_and_then (λ bytes. if nat_le (length bytes) largest_packet then Some (response.Data bytes) else None) (bytes_of digits)

-- an answer of an endpoint: packets are for IN, and that one is taken for OUT, whatever is expected of it
unfoldable pub answer_of : ℕ → List ℕ → Option Response
answer_of ep word =
    if bytes_eq word (codes "n") then Some response.Nak
    else if bytes_eq word (codes "s") then Some response.Stall
    else if bytes_eq word (codes "b") then Some response.Broken
    else if is_in ep then option_and_then packet_of (behind (codes "d:") word)
    else option_map (λ expected. response.Ack) (expected_packet_of word)

-- the answers of words that are written out: 1 to as many as a script may have
unfoldable pub plain_answers_of : ℕ → List (List ℕ) → Option (List Response)
plain_answers_of ep words = if nat_lt 0 (length words) && nat_le (length words) longest_script then each_of (answer_of ep) words else None

-- the answers of an endpoint: those of its words, each as often as it stands
abbrev pub answers_of : ℕ → List (List ℕ) → Option (List Response)
answers_of ep words = plain_answers_of ep (written_out words)

-- the answers of an endpoint of a device
abbrev pub endpoint_answers : ℕ → ℕ → List Response → EndpointAnswers
endpoint_answers dev ep answers = record { dev = dev; ep = ep; answers = answers }

-- those that words say: a device, an endpoint and the answers
unfoldable pub endpoint_answers_of : List (List ℕ) → Option EndpointAnswers
endpoint_answers_of (dev ∷ ep ∷ words) =
    option_and_then (λ d. option_and_then (λ e. option_map (endpoint_answers d e) (answers_of e words)) (address_of ep)) (device_of dev)
endpoint_answers_of _ = None
