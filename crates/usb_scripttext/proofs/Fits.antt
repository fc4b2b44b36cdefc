-- What words say that are taken: an endpoint's answers are those that it may give.
use Rattle.std.proofs.Common.{◌≡◌, ℕ, suc, ◌≤◌, nat_le, nat_lt, Bool, true, false, ◌&&◌, List, [], ◌∷◌, length, Option, Some, None, refl, sym, ap, subst}
use Rattle.std.specs.Prelude.{IfSome, codes, if◌then◌else◌}
use Rattle.std.specs.List.{list_all}
use Rattle.std.specs.Option.{option_and_then, option_map}
use Rattle.std.specs.Str.{bytes_eq}
use Rattle.std.specs.Str.Parse.{digits_value}
use Rattle.std.proofs.lemmas.Bool.{and_parts, leb-true}
use Rattle.std.proofs.lemmas.Option.{IfSome_then}
use Rattle.usb_model.specs.declared.response.Response.{Response}
use Rattle.usb_model.specs.declared.response.Response.TheVariants as response
use Rattle.usb_model.specs.Limits.{largest_packet, longest_script}
use Rattle.usb_model.specs.Setup.{is_in}
use Rattle.usb_device.specs.Scripts.{is_answer}
use Rattle.usb_scripttext.specs.declared.script.EndpointAnswers.{EndpointAnswers}
use Rattle.usb_scripttext.specs.ExpectedPacket.{expected_packet_of}
use Rattle.usb_scripttext.specs.Number.{address_of, bytes_of, device_of, is_decimal, number_of}
use Rattle.usb_scripttext.specs.Prefix.{behind}
use Rattle.usb_scripttext.specs.Repeats.{written_out}
use Rattle.usb_scripttext.specs.Script.{answer_of, answers_of, each_of, endpoint_answers, endpoint_answers_of, packet_of, plain_answers_of}

-- what is said by way of another word
pub if_and_then : {A B : Type 0} (F : B → Type 0) (f : A → Option B) (o : Option A) → ((x : A) → IfSome (f x) F) → IfSome (option_and_then f o) F
if_and_then F f None each = tt
if_and_then F f (Some x) each = each x

-- of which this is known
pub if_and_then_of : {A B : Type 0} (G : A → Type 0) (F : B → Type 0) (f : A → Option B) (o : Option A) → IfSome o G → ((x : A) → G x → IfSome (f x) F) → IfSome (option_and_then f o) F
if_and_then_of G F f None known each = tt
if_and_then_of G F f (Some x) known each = each x known

pub if_map : {A B : Type 0} (F : B → Type 0) (f : A → B) (o : Option A) → ((x : A) → F (f x)) → IfSome (option_map f o) F
if_map F f None each = tt
if_map F f (Some x) each = each x

pub if_map_of : {A B : Type 0} (G : A → Type 0) (F : B → Type 0) (f : A → B) (o : Option A) → IfSome o G → ((x : A) → G x → F (f x)) → IfSome (option_map f o) F
if_map_of G F f None known each = tt
if_map_of G F f (Some x) known each = each x known

-- a value under a test
pub if_tested : {A : Type 0} (F : A → Type 0) (b : Bool) (x : A) → (b ≡ true → F x) → IfSome (if b then Some x else None) F
if_tested F true x known = known refl
if_tested F false x known = tt

-- a number is within its limit
pub number_within : (limit : ℕ) (word : List ℕ) → IfSome (number_of limit word) (λ n. n ≤ limit)
unfolding number_of
number_within limit word =
    if_tested (λ n. n ≤ limit) (is_decimal word && nat_le (digits_value 10 word) limit) (digits_value 10 word)
    (λ passed. leb-true (digits_value 10 word) limit (and_parts (is_decimal word) (nat_le (digits_value 10 word) limit) passed).1)

-- an answer that an endpoint may give
abbrev MayAnswer : ℕ → Response → Type 0
MayAnswer ep answer = is_answer (is_in ep) answer ≡ true

-- a packet isn't too long
packet_fits : (ep : ℕ) (word : List ℕ) → is_in ep ≡ true → IfSome (packet_of word) (MayAnswer ep)
unfolding packet_of
packet_fits ep word inward =
    if_and_then (MayAnswer ep) (λ bytes. if nat_le (length bytes) largest_packet then Some (response.Data bytes) else None) (bytes_of word)
    (λ bytes. if_tested (MayAnswer ep) (nat_le (length bytes) largest_packet) (response.Data bytes) (λ short. rw (inward, short) refl))

-- an answer is one that the endpoint may give
answer_fits : (ep : ℕ) (word : List ℕ) → IfSome (answer_of ep word) (MayAnswer ep)
unfolding answer_of
answer_fits ep word = by_n (bytes_eq word (codes "n")) (bytes_eq word (codes "s")) (bytes_eq word (codes "b")) (is_in ep) refl
  where
    packets : is_in ep ≡ true → IfSome (option_and_then packet_of (behind (codes "d:") word)) (MayAnswer ep)
    packets inward = if_and_then (MayAnswer ep) packet_of (behind (codes "d:") word) (λ digits. packet_fits ep digits inward)

    either : (answer : Response) → ((b : Bool) → is_answer b answer ≡ true) → MayAnswer ep answer
    either answer all = all (is_in ep)

    naks : (b : Bool) → is_answer b response.Nak ≡ true
    naks true = refl
    naks false = refl

    stalls : (b : Bool) → is_answer b response.Stall ≡ true
    stalls true = refl
    stalls false = refl

    breaks : (b : Bool) → is_answer b response.Broken ≡ true
    breaks true = refl
    breaks false = refl

    by_n : (n s b inward : Bool) → is_in ep ≡ inward
        → IfSome (if n then Some response.Nak else if s then Some response.Stall else if b then Some response.Broken else if inward then option_and_then packet_of (behind (codes "d:") word) else option_map (λ expected. response.Ack) (expected_packet_of word)) (MayAnswer ep)
    by_n true s b inward e = either response.Nak naks
    by_n false true b inward e = either response.Stall stalls
    by_n false false true inward e = either response.Broken breaks
    by_n false false false true e = packets e
    by_n false false false false e = if_map (MayAnswer ep) (λ expected. response.Ack) (expected_packet_of word) (λ expected. rw e refl)

-- each answer of some words
each_fits : (ep : ℕ) (words : List (List ℕ)) → IfSome (each_of (answer_of ep) words) (λ answers. (list_all (is_answer (is_in ep)) answers ≡ true) × (length answers ≡ length words))
unfolding each_of
each_fits ep [] = (refl, refl)
each_fits ep (word ∷ words) =
    if_and_then_of (MayAnswer ep) Fits (λ x. option_map (λ xs. x ∷ xs) (each_of (answer_of ep) words)) (answer_of ep word) (answer_fits ep word)
    (λ x fits. if_map_of Others Fits (λ xs. x ∷ xs) (each_of (answer_of ep) words) (each_fits ep words) (λ xs others. (rw fits others.0, ap suc others.1)))
  where
    Fits : List Response → Type 0
    Fits answers = (list_all (is_answer (is_in ep)) answers ≡ true) × (length answers ≡ length (word ∷ words))

    Others : List Response → Type 0
    Others answers = (list_all (is_answer (is_in ep)) answers ≡ true) × (length answers ≡ length words)

-- a script that the endpoint may have
abbrev pub IsScriptOf : ℕ → List Response → Type 0
IsScriptOf ep answers = (length answers ≤ longest_script) × (list_all (is_answer (is_in ep)) answers ≡ true)

answers_fit : (ep : ℕ) (words : List (List ℕ)) → IfSome (plain_answers_of ep words) (IsScriptOf ep)
unfolding plain_answers_of
answers_fit ep words = by_test (nat_lt 0 (length words)) (nat_le (length words) longest_script) refl
  where
    by_test : (some few : Bool) → nat_le (length words) longest_script ≡ few → IfSome (if some && few then each_of (answer_of ep) words else None) (IsScriptOf ep)
    by_test false few e = tt
    by_test true false e = tt
    by_test true true e = IfSome_then (each_of (answer_of ep) words) (each_fits ep words) (λ answers fit. (subst (λ n. n ≤ longest_script) (sym fit.1) (leb-true (length words) longest_script e), fit.0))

-- answers that their endpoint may have
abbrev pub AreFit : EndpointAnswers → Type 0
AreFit said = IsScriptOf said.ep said.answers

pub said_fit : (words : List (List ℕ)) → IfSome (endpoint_answers_of words) AreFit
unfolding endpoint_answers_of
said_fit (dev ∷ ep ∷ words) =
    if_and_then AreFit (λ d. option_and_then (λ e. option_map (endpoint_answers d e) (answers_of e words)) (address_of ep)) (device_of dev)
    (λ d. if_and_then AreFit (λ e. option_map (endpoint_answers d e) (answers_of e words)) (address_of ep) (λ e. if_map_of (IsScriptOf e) AreFit (endpoint_answers d e) (answers_of e words) (answers_fit e (written_out words)) (λ answers fit. fit)))
said_fit [] = tt
said_fit (dev ∷ []) = tt
