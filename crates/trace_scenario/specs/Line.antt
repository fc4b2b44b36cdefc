-- Lines: what the words of each say.
use Rattle.std.specs.Prelude.{ℕ, List, [], ◌∷◌, codes, Option, Some, None, if◌then◌else◌}
use Rattle.std.specs.Option.{option_map, option_and_then}
use Rattle.std.specs.Result.{result_ok}
use Rattle.std.specs.Str.{bytes_eq}
use Rattle.usb_model.specs.declared.request.Kind.{Kind}
use Rattle.usb_model.specs.declared.request.Kind.TheVariants.{Bulk, Interrupt}
use Rattle.usb_model.specs.declared.request.Body.{Body}
use Rattle.usb_model.specs.declared.request.Body.TheVariants.{In, Out}
use Rattle.usb_descriptors.specs.Grammar.{reading}
use Rattle.trace_scenario.specs.declared.line.Line.{Line}
use Rattle.trace_scenario.specs.declared.line.Line.TheVariants as line
use Rattle.trace_scenario.specs.declared.option.Options.{Options}
use Rattle.usb_scripttext.specs.declared.script.EndpointAnswers.{EndpointAnswers}
use Rattle.trace_scenario.specs.declared.verb.Verb.{Verb}
use Rattle.trace_scenario.specs.declared.verb.Verb.TheVariants.{Device, Script, Feed, Open, Close, Claim, Release, Reset, Clear, Submit, Cancel, Expire, Serve, Command, Deliver, Take, Return, Unplug}
use Rattle.usb_model.specs.declared.step.Step.TheVariants as step
use Rattle.trace_scenario.specs.Handle.{handle_of}
use Rattle.usb_scripttext.specs.Number.{device_of, u32_of, address_of, bytes_of}
use Rattle.trace_scenario.specs.Verb.{verb_of}
use Rattle.usb_scripttext.specs.Script.{endpoint_answers_of}
use Rattle.usb_scripttext.specs.Words.{ascii_of, words_in}
use Rattle.trace_scenario.specs.Step.{bare_of, open_of, close_of, claim_of, release_of, reset_of, clear_of, cancel_of, expire_of, serve_of, unplug_of, return_of}
use Rattle.usb_scripttext.specs.Prefix.{behind}
use Rattle.trace_scenario.specs.Option.{options_of}

-- a script: the answers that an endpoint begins with
abbrev pub script_line : EndpointAnswers → Line
script_line said = line.Script said.dev said.ep said.answers

-- answers behind those that an endpoint has
abbrev pub feed_line : EndpointAnswers → Line
feed_line said = line.Feed said.dev said.ep said.answers

-- a device: its number and its configuration descriptor
unfoldable pub device_line_of : List (List ℕ) → Option Line
device_line_of (number ∷ descriptor ∷ []) =
    option_and_then (λ d. option_and_then (λ bytes. option_map (line.Device d) (result_ok (reading bytes))) (bytes_of descriptor)) (device_of number)
device_line_of _ = None

-- the kind of an endpoint that transfers may be submitted to
unfoldable pub kind_of : List ℕ → Option Kind
kind_of word = if bytes_eq word (codes "bulk") then Some Bulk else if bytes_eq word (codes "int") then Some Interrupt else None

-- what a transfer carries: its bytes, or how many there is room for
abbrev pub body_by : List ℕ → Option (List ℕ) → Option Body
body_by word (Some digits) = option_map Out (bytes_of digits)
body_by word None = option_map In (u32_of word)

unfoldable pub body_of : List ℕ → Option Body
body_of word = body_by word (behind (codes "x:") word)

-- the submission of a handle, an endpoint, a kind, a body and options
abbrev pub submission : ℕ → ℕ → Kind → Body → Options → Line
submission h ep kind body options =
    line.Submit h (record { ep = ep; kind = kind; flags = options.flags; timeout = options.timeout; body = body }) options.rule

-- a transfer: its kind, its body and the options
unfoldable pub transfer_of : ℕ → ℕ → List (List ℕ) → Option Line
transfer_of h ep (kind ∷ body ∷ options) =
    option_and_then (λ k. option_and_then (λ b. option_map (λ o. submission h ep k b o) (options_of options)) (body_of body)) (kind_of kind)
transfer_of h ep _ = None

-- a submission: a handle, an endpoint and the transfer
unfoldable pub submit_of : List (List ℕ) → Option Line
submit_of (h ∷ ep ∷ words) = option_and_then (λ g. option_and_then (λ e. transfer_of g e words) (address_of ep)) (handle_of h)
submit_of _ = None

-- the line of a verb and the words behind it
abbrev pub line_by : Verb → List (List ℕ) → Option Line
line_by Device words = device_line_of words
line_by Script words = option_map script_line (endpoint_answers_of words)
line_by Feed words = option_map feed_line (endpoint_answers_of words)
line_by Submit words = submit_of words
line_by Open words = open_of words
line_by Close words = close_of words
line_by Claim words = claim_of words
line_by Release words = release_of words
line_by Reset words = reset_of words
line_by Clear words = clear_of words
line_by Cancel words = cancel_of words
line_by Expire words = expire_of words
line_by Serve words = serve_of words
line_by Command words = bare_of step.Command words
line_by Deliver words = bare_of step.Deliver words
line_by Take words = bare_of step.Take words
line_by Return words = return_of words
line_by Unplug words = unplug_of words

-- the line of some words
abbrev pub line_of : List (List ℕ) → Option Line
line_of [] = None
line_of (word ∷ words) = option_and_then (λ verb. line_by verb words) (verb_of word)

-- the line of a text of ASCII words between spaces
abbrev pub line_of_text : List ℕ → Option Line
line_of_text text = option_and_then (λ ascii. line_of (words_in ascii)) (ascii_of text)
