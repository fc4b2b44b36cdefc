-- Lines that say devices.
use Rattle.std.proofs.Common.{◌≡◌, ℕ, ◌+◌, ◌<◌, ◌≤◌, nat_lt, List, [], ◌++◌, length, get_or, drop, append_assoc, append-nil, Some, sym, ap, ◌∙◌}
use Rattle.std.specs.Prelude.{if◌then◌else◌}
use Rattle.std.specs.Option.{option_and_then, option_to_list}
use Rattle.std.proofs.lemmas.List.{at_drop_all, at_drop_more}
use Rattle.trace_scenario.specs.declared.described.DescribedDevice.{DescribedDevice}
use Rattle.trace_scenario.specs.declared.scenario.Scenario.{Scenario}
use Rattle.trace_scenario.specs.DeviceLines.{described, described_by, device_lines_from, device_lines_past, has_more_devices}
use Rattle.usb_scripttext.specs.Words.{ascii_of}
use Rattle.trace_scenario.specs.Scenario.{with_text}
use Rattle.usb_scripttext.specs.Words.{words_in}

-- what the words of a line say, it says
pub described_words : (at : ℕ) (text ascii : List ℕ) (words : List (List ℕ)) → ascii_of text ≡ Some ascii → words ≡ words_in ascii → described_by at words ≡ described at text
described_words at text ascii words is parted = ap (described_by at) parted ∙ sym (ap (option_and_then (λ a. described_by at (words_in a))) is)

-- the devices so far, and those from here on, with one line more
pub described_more : (texts : List (List ℕ)) (i : ℕ) (text : List ℕ) (s t : Scenario) (old new all : List DescribedDevice) (number before after : ℕ)
    → (i < length texts) × (text ≡ get_or texts i text) → with_text s text ≡ Some t → number ≡ i + 1 → before ≡ length s.setup → after ≡ length t.setup
    → new ≡ old ++ (if nat_lt before after then option_to_list (described number text) else []) → old ++ device_lines_from (i + 1) s (drop i texts) ≡ all
    → new ++ device_lines_from (i + 1 + 1) t (drop (i + 1) texts) ≡ all
unfolding device_lines_from
described_more texts i text s t old new all number before after here taken at was is put so_far =
    let rest : List DescribedDevice = device_lines_from (i + 1 + 1) t (drop (i + 1) texts) in
    let said : List DescribedDevice = if has_more_devices s t then option_to_list (described (i + 1) text) else [] in
    let further : Scenario → List DescribedDevice = λ u. device_lines_from (i + 1 + 1) u (drop (i + 1) texts) in
    let left : device_lines_from (i + 1) s (drop i texts) ≡ said ++ rest =
    at_drop_more (device_lines_from (i + 1) s) texts i text here.0
    ∙ (ap (λ line. device_lines_past (i + 1) s line further (with_text s line)) (sym here.1) ∙ ap (device_lines_past (i + 1) s text further) taken) in
    ap (λ l. l ++ rest) (rw (at, was, is) at put) ∙ (append_assoc old said rest ∙ (ap (λ l. old ++ l) (sym left) ∙ so_far))

-- at the end none is left
pub described_all : (texts : List (List ℕ)) (i : ℕ) (s : Scenario) (old all : List DescribedDevice) → length texts ≤ i → old ++ device_lines_from (i + 1) s (drop i texts) ≡ all → old ≡ all
unfolding device_lines_from
described_all texts i s old all past so_far = sym (append-nil old) ∙ (sym (ap (λ l. old ++ l) (at_drop_all (device_lines_from (i + 1) s) texts i past)) ∙ so_far)
