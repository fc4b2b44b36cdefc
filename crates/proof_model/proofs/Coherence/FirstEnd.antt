-- The first end that is told is that of the line's first transfer that is no blank.
use Rattle.std.proofs.Common.{List, Some, [], ap, false, refl, sym, ℕ, ◌++◌, ◌==◌, ◌∙◌, ◌∷◌, ◌≡◌}
use Rattle.std.specs.List.{AllByRecursion}
use Rattle.std.proofs.lemmas.Bool.{and_right}
use Rattle.usb_model.specs.declared.errand.Errand.{Errand}
use Rattle.usb_model.specs.declared.endpoint.Endpoint.{Endpoint}
use Rattle.usb_model.specs.declared.item.Item.{Item}
use Rattle.usb_model.specs.declared.item.ItemState.TheVariants.{Blank, Served, Waiting}
use Rattle.usb_model.specs.declared.item.ItemState.{ItemState}
use Rattle.usb_model.specs.declared.news.Event.TheVariants.{Finished}
use Rattle.usb_model.specs.declared.news.Event.{Event}
use Rattle.usb_model.specs.Endpoint.{in_progress, live_numbers, past_number}
use Rattle.proof_model.proofs.Lists.Parts.{heads_same}
use Rattle.usb_model.specs.Coherence.{IsCoherent, ServedFirst, event_by, first_by, served_events}
use Rattle.proof_model.proofs.Lists.Pieces.{same_name}
use Rattle.proof_model.proofs.Work.Phases.{no_end}

-- the transfer, served with the code: only blanks stand before it
pub record EndsFirst (line : List Item) (k code : ℕ) : Type 0 where
  pub front : List Item
  pub item : Item
  pub blanks : AllByRecursion (λ x. x.state ≡ Blank) front
  pub split : line ≡ front ++ item ∷ past_number k line
  pub number : item.n ≡ k
  pub served : item.state ≡ Served code
  pub found : in_progress k line ≡ Some item
  pub lives : live_numbers line ≡ k ∷ live_numbers (past_number k line)

-- the first end of a line is that of its first transfer that is no blank
pub ends_first : (line : List Item) (k code : ℕ) (es : List Event) → ServedFirst line → served_events line ≡ Finished k code ∷ es → EndsFirst line k code
unfolding served_events past_number in_progress live_numbers
ends_first [] k code es f e = absurd cc
ends_first (x ∷ xs) k code es f e = by_state x.state refl f e (ends_first xs k code es)
  where
    after_blank : x.state ≡ Blank → EndsFirst xs k code → EndsFirst (x ∷ xs) k code
    after_blank is r =
        let past : past_number k (x ∷ xs) ≡ past_number k xs = rw (is, and_right (x.n == k) false refl) refl in
        record {
          front = x ∷ r.front;
          blanks = (is, r.blanks);
          item = r.item;
          split = ap (λ l. x ∷ l) r.split ∙ ap (λ l. x ∷ (r.front ++ r.item ∷ l)) (sym past);
          number = r.number;
          served = r.served;
          found = rw (is, and_right (x.n == k) false refl) r.found;
          lives = rw (is, and_right (x.n == k) false refl) r.lives;
        }

    by_state : (s : ItemState) → x.state ≡ s → first_by s xs (ServedFirst xs) → event_by x.n s (served_events xs) ≡ Finished k code ∷ es
        → (ServedFirst xs → served_events xs ≡ Finished k code ∷ es → EndsFirst xs k code) → EndsFirst (x ∷ xs) k code
    by_state Waiting is f e rest = absurd (cc (f, e))
    by_state (Served c) is f e rest =
        let number : x.n ≡ k = cc in
        let same : c ≡ code = cc in
        let past : past_number k (x ∷ xs) ≡ xs = rw (is, number, same_name k) refl in
        record {
          front = [];
          blanks = tt;
          item = x;
          split = ap (λ l. x ∷ l) (sym past);
          number = number;
          served = is ∙ ap (λ l. Served l) same;
          found = rw (is, number, same_name k) refl;
          lives = rw (is, number, same_name k) refl;
        }
    by_state Blank is f e rest = after_blank is (rest f e)

-- of an endpoint and its pieces that fit each other
pub told_first : (e : Endpoint) (os : List Errand) (ns : List Event) (k code : ℕ) → IsCoherent e os (Finished k code ∷ ns) → (es : List Event) × (served_events e.line ≡ Finished k code ∷ es)
told_first e os ns k code c = by_events (served_events e.line) refl
  where
    by_events : (fs : List Event) → served_events e.line ≡ fs → (es : List Event) × (served_events e.line ≡ Finished k code ∷ es)
    by_events [] is = absurd (no_end e.state e.errand os (served_events e.line) c.tail k code ns c.phase (sym (c.news ∙ ap (λ l. l ++ c.tail) is)))
    by_events (x ∷ es) is = (es, is ∙ ap (λ y. y ∷ es) (sym (heads_same (Finished k code) x ns (es ++ c.tail) (c.news ∙ ap (λ l. l ++ c.tail) is)).0))

-- an end that is told next is that of the line's first transfer that is no blank
pub end_told : (e : Endpoint) (os : List Errand) (ns : List Event) (k code : ℕ) → IsCoherent e os (Finished k code ∷ ns) → EndsFirst e.line k code
end_told e os ns k code c = let t = told_first e os ns k code c in ends_first e.line k code t.0 c.in_order t.1
