-- Transfers that were asked to end are withdrawn, one behind another.
use Rattle.std.proofs.Common.{Bool, List, None, Option, Some, [], append-nil, append_assoc, ap, ap₂, false, length, map, not, refl, subst, subst₂, suc, sym, true, zero, ℕ, ◌++◌, ◌∙◌, ◌∷◌, ◌≡◌}
use Rattle.std.specs.Prelude.{drop, take, is_some, slice_get, slice_set, slice_index_or, ◌==◌, ◌&&◌, if◌then◌else◌}
use Rattle.std.proofs.lemmas.List.{map-append}
use Rattle.std.proofs.lemmas.Bool.{and_parts, eqb-true}
use Rattle.std.proofs.lemmas.Option.{same_Some}
use Rattle.usb_model.specs.declared.item.Ask.{Ask}
use Rattle.usb_model.specs.declared.request.Request.{Request}
use Rattle.usb_model.specs.declared.result.TransferResult.{TransferResult}
use Rattle.usb_model.specs.declared.shared.Tagged.{Tagged}
use Rattle.usb_model.specs.Completion.{stopped}
use Rattle.usb_model.specs.Endpoint.Status.{told_status}
use Rattle.usb_model.specs.Requests.{is_short_not_ok, length_of}
use Rattle.usb_model.specs.Setup.{Setup}
use Rattle.usb_model.specs.World.Shared.{tagged}
use Rattle.usb_model.specs.Kept.{KeptEndpoint, KeptTransfer}
use Rattle.usb_model.specs.Events.{kept_result}
use Rattle.usb_model.specs.Settlements.{kept_blanked, kept_withdrawn, withdrawn_results}
use Rattle.usb_tables.specs.declared.transfer.Transfer.{Transfer as InFlight}
use Rattle.usb_tables.specs.declared.ending.Ending.{Ending}
use Rattle.usb_tables.specs.TransfersInFlight.{item_at, line_at}
use Rattle.refine_world.specs.Shows.{Core}
use Rattle.refine_rings.specs.Holds.{with_end}
use Rattle.refine_rings.proofs.Ends.{here}
use Rattle.refine_core.specs.Deliveries.{WithdrawsAll, WithdrawsTo, asked_ending, withdrawn_to}
use Rattle.refine_core.specs.State.{AllItems, IsItem, Keeps, State}
use Rattle.refine_core.specs.Works.{IsAt, Withdraws, result_by, with_kept}
use Rattle.refine_core.proofs.Amid.{keeps_as}
use Rattle.refine_core.proofs.Lines.{as_many, index_get, item_of}
use Rattle.refine_core.proofs.Same.{put_twice}
use Rattle.refine_core.proofs.Transfers.{end_at}

-- the withdrawn of two lists
withdrawn_append : (xs ys : List KeptTransfer) → withdrawn_results (xs ++ ys) ≡ withdrawn_results xs ++ withdrawn_results ys
unfolding withdrawn_results
withdrawn_append [] ys = refl
withdrawn_append (x ∷ xs) ys = by_test (kept_withdrawn x) (withdrawn_append xs ys)
  where
    by_test : (b : Bool) → withdrawn_results (xs ++ ys) ≡ withdrawn_results xs ++ withdrawn_results ys
        → (if b then kept_result false stopped x x.moved ∷ withdrawn_results (xs ++ ys) else withdrawn_results (xs ++ ys)) ≡ (if b then kept_result false stopped x x.moved ∷ withdrawn_results xs else withdrawn_results xs) ++ withdrawn_results ys
    by_test true rest = ap (λ (l : List TransferResult). kept_result false stopped x x.moved ∷ l) rest
    by_test false rest = rest

-- of one
withdrawn_one : (y : KeptTransfer) → withdrawn_results (y ∷ []) ≡ (if kept_withdrawn y then kept_result false stopped y y.moved ∷ [] else [])
unfolding withdrawn_results
withdrawn_one y = refl

-- one more of the first items, where there is one
take_one : {A : Type 0} (xs : List A) (k : ℕ) (x : A) → slice_get xs k ≡ Some x → take (suc k) xs ≡ take k xs ++ x ∷ []
take_one [] k x there = absurd cc
take_one (y ∷ ys) zero x there = ap (λ z. z ∷ []) (same_Some y x there)
take_one (y ∷ ys) (suc k) x there = ap (λ l. y ∷ l) (take_one ys k x there)

drop_one : {A : Type 0} (xs : List A) (k : ℕ) (x : A) → slice_get xs k ≡ Some x → drop k xs ≡ x ∷ drop (suc k) xs
drop_one [] k x there = absurd cc
drop_one (y ∷ ys) zero x there = ap (λ z. z ∷ ys) (same_Some y x there)
drop_one (y ∷ ys) (suc k) x there = drop_one ys k x there

-- and where there is none
take_past : {A : Type 0} (xs : List A) (k : ℕ) → slice_get xs k ≡ None → take (suc k) xs ≡ take k xs
take_past [] zero none = refl
take_past [] (suc k) none = refl
take_past (y ∷ ys) zero none = absurd cc
take_past (y ∷ ys) (suc k) none = ap (λ l. y ∷ l) (take_past ys k none)

drop_past : {A : Type 0} (xs : List A) (k : ℕ) → slice_get xs k ≡ None → drop (suc k) xs ≡ drop k xs
drop_past [] zero none = refl
drop_past [] (suc k) none = refl
drop_past (y ∷ ys) zero none = absurd cc
drop_past (y ∷ ys) (suc k) none = drop_past ys k none

-- the next item stands where it stood
stands : (ys : List KeptTransfer) (k : ℕ) → slice_get (withdrawn_to k ys) k ≡ slice_get ys k
stands ys zero = refl
stands [] (suc k) = refl
stands (y ∷ ys) (suc k) = stands ys k

-- with the next one blanked
to_next : (ys : List KeptTransfer) (k : ℕ) (y : KeptTransfer) → slice_get ys k ≡ Some y → withdrawn_to (suc k) ys ≡ slice_set (withdrawn_to k ys) k (kept_blanked y)
to_next [] k y there = absurd cc
to_next (x ∷ ys) zero y there = ap (λ z. kept_blanked z ∷ ys) (same_Some x y there)
to_next (x ∷ ys) (suc k) y there = ap (λ l. kept_blanked x ∷ l) (to_next ys k y there)

-- what stands in its own place
set_same : {A : Type 0} (xs : List A) (k : ℕ) (x : A) → slice_get xs k ≡ Some x → slice_set xs k x ≡ xs
set_same [] k x there = refl
set_same (y ∷ ys) zero x there = ap (λ z. z ∷ ys) (sym (same_Some y x there))
set_same (y ∷ ys) (suc k) x there = ap (λ l. y ∷ l) (set_same ys k x there)

-- all of them
take_length : {A : Type 0} (xs : List A) → take (length xs) xs ≡ xs
take_length [] = refl
take_length (x ∷ xs) = ap (λ l. x ∷ l) (take_length xs)

drop_length : {A : Type 0} (xs : List A) → drop (length xs) xs ≡ []
drop_length [] = refl
drop_length (x ∷ xs) = drop_length xs

-- whether the transfer of an item is withdrawn, and what comes of it
pub record IsAsked (o : Option Ending) (y : KeptTransfer) : Type 0 where
  pub none : o ≡ None → kept_withdrawn y ≡ false
  pub some : (x : Ending) → o ≡ Some x → (kept_withdrawn y ≡ true) × (result_by y x ≡ kept_result false stopped y y.moved)

-- behind a line there is no item
no_item : {P : Type 0} (name : Option ℕ) (e : ℕ) (xs : List (Option (InFlight P))) (ys : List KeptTransfer) (k : ℕ) → AllItems name e xs ys → slice_get ys k ≡ None → slice_index_or xs k None ≡ None
no_item name e [] ys k all none = refl
no_item name e (x ∷ xs) [] k all none = absurd all
no_item name e (x ∷ xs) (y ∷ ys) zero all none = absurd cc
no_item name e (x ∷ xs) (y ∷ ys) (suc k) all none = no_item name e xs ys k all.1 none

module _ {P : Type 0} where
  asked_is : (name : Option ℕ) (e : ℕ) (t : Option (InFlight P)) (y : KeptTransfer) → IsItem name e t y → IsAsked (asked_ending t) y
  asked_is name e None y blank = record { none = λ none. ap (λ b. not b && is_some y.ask) blank; some = λ x some. absurd cc }
  asked_is name e (Some t) y is = by_ask (is_some t.ask) refl
    where
      ending : Ending
      ending = record { status = told_status false stopped t.ask (is_short_not_ok t.request) (length_of t.request.body) t.moved; actual = t.moved }

      kept : kept_withdrawn y ≡ is_some t.ask
      kept = ap (λ b. not b && is_some y.ask) is.live ∙ ap (λ (a : Option Ask). is_some a) (sym is.asked)

      its : result_by y ending ≡ kept_result false stopped y y.moved
      its = ap₂ (λ (a : Option Ask) m. record { n = y.n; request = y.request; round = y.round; status = told_status false stopped a (is_short_not_ok t.request) (length_of t.request.body) m; actual = m; bytes = y.bytes }) is.asked is.told
          ∙ ap (λ (q : Request). record { n = y.n; request = y.request; round = y.round; status = told_status false stopped y.ask (is_short_not_ok q) (length_of q.body) y.moved; actual = y.moved; bytes = y.bytes }) is.asks_for

      by_ask : (b : Bool) → is_some t.ask ≡ b → IsAsked (if b then Some ending else None) y
      by_ask true asked = record {
        none = λ none. absurd cc;
        some = λ x some. (kept ∙ asked, ap (result_by y) (sym (same_Some ending x some)) ∙ its);
      }
      by_ask false asked = record { none = λ none. kept ∙ asked; some = λ x some. absurd cc }

  -- an endpoint and the results of a core that is kept are the same
  keeps_same : (setup : Setup) (s : State P) (c : Core) (d e : ℕ) (b after : KeptEndpoint) (r made : List (Tagged TransferResult)) → b ≡ after → r ≡ made → Keeps setup s (record (with_kept d e b c) { results = r }) → Keeps setup s (record (with_kept d e after c) { results = made })
  keeps_same setup s c d e b after r made end results keeps = subst₂ (λ (v : KeptEndpoint) (l : List (Tagged TransferResult)). Keeps setup s (record (with_kept d e v c) { results = l })) end results keeps

  -- what was put there last stands
  pub keeps_over : (setup : Setup) (s : State P) (c : Core) (d e : ℕ) (b after : KeptEndpoint) (r made : List (Tagged TransferResult)) → Keeps setup s (record (with_kept d e after (record (with_kept d e b c) { results = r })) { results = made })
      → Keeps setup s (record (with_kept d e after c) { results = made })
  keeps_over setup s c d e b after r made keeps = keeps_as setup s (record (with_kept d e after (record (with_kept d e b c) { results = r })) { results = made }) (record (with_kept d e after c) { results = made })
      (record {
        names = λ g. refl;
        claims = λ dev i. refl;
        gone = λ dev. refl;
        endpoints = λ dev ep. put_twice c.endpoints d e b after dev ep;
        orders = refl;
        events = refl;
        posted = refl;
        results = refl;
      })
      keeps

  -- none of no items is withdrawn
  pub withdraws_none : (old : State P) (h d e : ℕ) → WithdrawsTo old old h d e 0
  unfolding withdrawn_results
  withdraws_none old h d e setup c at still = keeps_as setup old c (record (with_kept d e (record (c.endpoints d e) { line = (c.endpoints d e).line }) c) { results = c.results ++ [] })
      (record {
        names = λ g. refl;
        claims = λ dev i. refl;
        gone = λ dev. refl;
        endpoints = λ dev ep. own_end dev ep;
        orders = refl;
        events = refl;
        posted = refl;
        results = sym (append-nil c.results);
      })
      at.keeps
    where
      own_end : (dev ep : ℕ) → c.endpoints dev ep ≡ with_end c.endpoints d e (c.endpoints d e) dev ep
      own_end dev ep = by_test ((d == dev) && (e == ep)) refl
        where
          by_test : (t : Bool) → ((d == dev) && (e == ep)) ≡ t → c.endpoints dev ep ≡ (if t then c.endpoints d e else c.endpoints dev ep)
          by_test true is =
              let both = and_parts (d == dev) (e == ep) is in
              ap₂ c.endpoints (sym (eqb-true d dev both.0)) (sym (eqb-true e ep both.1))
          by_test false is = refl

  -- the next item is withdrawn, or stays
  pub withdraws_next : (old mid new : State P) (h d e k : ℕ) (o : Option Ending) → WithdrawsTo old mid h d e k → o ≡ asked_ending (item_at mid.flights d e k) → (o ≡ None → new ≡ mid) → ((x : Ending) → o ≡ Some x → Withdraws mid new h d e k x)
      → WithdrawsTo old new h d e (suc k)
  withdraws_next old mid new h d e k o before is stays withdrawn setup c at still = by_item (slice_get line k) refl
    where
      line : List KeptTransfer
      line = (c.endpoints d e).line

      b : KeptEndpoint
      b = record (c.endpoints d e) { line = withdrawn_to k line }

      made : List (Tagged TransferResult)
      made = c.results ++ tagged h (withdrawn_results (take k line))

      m : Core
      m = record (with_kept d e b c) { results = made }

      keeps : Keeps setup mid m
      keeps = before setup c at still

      at_m : IsAt setup mid m h d e
      at_m = record { keeps = keeps; interface = at.interface; there = at.there; holds = at.holds }

      there_b : m.endpoints d e ≡ b
      there_b = here c.endpoints d e b

      all : AllItems (Some h) e (line_at mid.flights d e) (withdrawn_to k line)
      all = subst (λ (v : KeptEndpoint). AllItems (Some h) e (line_at mid.flights d e) v.line) there_b (end_at setup mid m h d e at_m).line

      Next : Type 0
      Next = Keeps setup new (record (with_kept d e (record (c.endpoints d e) { line = withdrawn_to (suc k) line }) c) { results = c.results ++ tagged h (withdrawn_results (take (suc k) line)) })

      unchanged : o ≡ None → withdrawn_to k line ≡ withdrawn_to (suc k) line → withdrawn_results (take k line) ≡ withdrawn_results (take (suc k) line) → Next
      unchanged none same results = keeps_same setup new c d e b (record (c.endpoints d e) { line = withdrawn_to (suc k) line }) made (c.results ++ tagged h (withdrawn_results (take (suc k) line)))
          (ap (λ (l : List KeptTransfer). record (c.endpoints d e) { line = l }) same) (ap (λ (l : List TransferResult). c.results ++ tagged h l) results)
          (subst (λ (s : State P). Keeps setup s m) (sym (stays none)) keeps)

      tag_of : TransferResult → Tagged TransferResult
      tag_of r = record { name = h; piece = r }

      not_blank : (t : Bool) → not t ≡ true → t ≡ false
      not_blank true is = absurd cc
      not_blank false is = refl

      by_item : (v : Option KeptTransfer) → slice_get line k ≡ v → Next
      by_item None none = unchanged (is ∙ ap asked_ending (no_item (Some h) e (line_at mid.flights d e) (withdrawn_to k line) k all (stands line k ∙ none)))
          (ap₂ (λ (xs ys : List KeptTransfer). map kept_blanked xs ++ ys) (sym (take_past line k none)) (sym (drop_past line k none))) (ap withdrawn_results (sym (take_past line k none)))
      by_item (Some y) there = by_ending o refl
        where
          stands_y : slice_get (withdrawn_to k line) k ≡ Some y
          stands_y = stands line k ∙ there

          its : (x : Option (InFlight P)) × (slice_get (line_at mid.flights d e) k ≡ Some x) × IsItem (Some h) e x y
          its = item_of (Some h) e (line_at mid.flights d e) (withdrawn_to k line) k y all stands_y

          asked : IsAsked o y
          asked = subst (λ (v : Option Ending). IsAsked v y) (sym (is ∙ ap asked_ending (index_get (line_at mid.flights d e) k None its.0 its.1))) (asked_is (Some h) e its.0 y its.2)

          more : withdrawn_results (take (suc k) line) ≡ withdrawn_results (take k line) ++ (if kept_withdrawn y then kept_result false stopped y y.moved ∷ [] else [])
          more = ap withdrawn_results (take_one line k y there) ∙ withdrawn_append (take k line) (y ∷ []) ∙ ap (λ (l : List TransferResult). withdrawn_results (take k line) ++ l) (withdrawn_one y)

          by_ending : (v : Option Ending) → o ≡ v → Next
          by_ending None none =
              let still_there : kept_withdrawn y ≡ false = asked.none none in
              let own : kept_blanked y ≡ y = ap (λ t. if t then record y { blank = true } else y) still_there in
              unchanged none
              (sym (to_next line k y there ∙ ap (slice_set (withdrawn_to k line) k) own ∙ set_same (withdrawn_to k line) k y stands_y))
              (sym (more ∙ ap (λ t. withdrawn_results (take k line) ++ (if t then kept_result false stopped y y.moved ∷ [] else [])) still_there ∙ append-nil (withdrawn_results (take k line))))
          by_ending (Some x) some =
              let yes = asked.some x some in
              let live : y.blank ≡ false = not_blank y.blank (and_parts (not y.blank) (is_some y.ask) yes.0).0 in
              let gone : kept_blanked y ≡ record y { blank = true } = ap (λ t. if t then record y { blank = true } else y) yes.0 in
              let step : Keeps setup new (record (with_kept d e (record (m.endpoints d e) { line = slice_set (m.endpoints d e).line k (record y { blank = true }) }) m) { results = m.results ++ tagged h (result_by y x ∷ []) }) =
              withdrawn x some setup m y at_m still (ap (λ (v : KeptEndpoint). slice_get v.line k) there_b ∙ stands_y) live in
              keeps_same setup new c d e (record (m.endpoints d e) { line = slice_set (m.endpoints d e).line k (record y { blank = true }) }) (record (c.endpoints d e) { line = withdrawn_to (suc k) line })
              (made ++ tagged h (result_by y x ∷ [])) (c.results ++ tagged h (withdrawn_results (take (suc k) line)))
              (ap (λ (v : KeptEndpoint). record v { line = slice_set v.line k (record y { blank = true }) }) there_b ∙ ap (λ (l : List KeptTransfer). record (c.endpoints d e) { line = l }) (ap (slice_set (withdrawn_to k line) k) (sym gone) ∙ sym (to_next line k y there)))
              (append_assoc c.results (tagged h (withdrawn_results (take k line))) (tagged h (result_by y x ∷ []))
              ∙ ap (λ (l : List (Tagged TransferResult)). c.results ++ l) (sym (map-append tag_of (withdrawn_results (take k line)) (result_by y x ∷ [])))
              ∙ ap (λ (l : List TransferResult). c.results ++ tagged h l) (ap (λ (r : TransferResult). withdrawn_results (take k line) ++ r ∷ []) yes.1 ∙ ap (λ t. withdrawn_results (take k line) ++ (if t then kept_result false stopped y y.moved ∷ [] else [])) (sym yes.0) ∙ sym more))
              (keeps_over setup new c d e b (record (m.endpoints d e) { line = slice_set (m.endpoints d e).line k (record y { blank = true }) }) made (made ++ tagged h (result_by y x ∷ [])) step)

  -- once all items were seen, all are withdrawn
  pub withdraws_all : (old new : State P) (h d e k : ℕ) → WithdrawsTo old new h d e k → k ≡ length (line_at old.flights d e) → WithdrawsAll old new h d e
  withdraws_all old new h d e k to is setup c at still = keeps_same setup new c d e (record (c.endpoints d e) { line = withdrawn_to k line }) (record (c.endpoints d e) { line = map kept_blanked line })
      (c.results ++ tagged h (withdrawn_results (take k line))) (c.results ++ tagged h (withdrawn_results line))
      (ap (λ (l : List KeptTransfer). record (c.endpoints d e) { line = l }) (ap₂ (λ (xs ys : List KeptTransfer). map kept_blanked xs ++ ys) whole (ap (λ n. drop n line) all ∙ drop_length line) ∙ append-nil (map kept_blanked line)))
      (ap (λ (l : List KeptTransfer). c.results ++ tagged h (withdrawn_results l)) whole)
      (to setup c at still)
    where
      line : List KeptTransfer
      line = (c.endpoints d e).line

      all : k ≡ length line
      all = is ∙ as_many (Some h) e (line_at old.flights d e) line (end_at setup old c h d e at).line

      whole : take k line ≡ line
      whole = ap (λ n. take n line) all ∙ take_length line
