-- An order that the controller carries out is the kept endpoint's.
use Rattle.std.proofs.Common.{◌≡◌, ℕ, zero, suc, ◌+◌, ◌-◌, ◌*◌, ◌%◌, ◌≤◌, refl, ap, ap₂, sym, subst, subst₂, ◌∙◌, arith, List, [], ◌∷◌, ◌++◌, length, map, take, Some, None, true, false, Bool, inl, inr}
use Rattle.std.specs.Prelude.{Option, option_map, slice_get, nat_lt, ◌==◌, if◌then◌else◌}
use Rattle.std.proofs.lemmas.Bool.{eqb-true, lt-ltb}
use Rattle.std.proofs.lemmas.List.{map-append}
use Rattle.usb_model.specs.declared.endpoint.EndpointState.{EndpointState}
use Rattle.usb_model.specs.declared.endpoint.EndpointState.TheVariants.{Running, Stopped, Halted}
use Rattle.usb_model.specs.declared.errand.Errand.{Errand}
use Rattle.usb_model.specs.declared.errand.Errand.TheVariants as errand
use Rattle.usb_model.specs.Completion.{stopped}
use Rattle.usb_trb.specs.declared.kind.Normal.{Normal as NormalTrb}
use Rattle.usb_trb.specs.declared.kind.TrbKind.{TrbKind}
use Rattle.usb_trb.specs.declared.kind.TrbKind.TheVariants.{CommandCompletion}
use Rattle.usb_rings.specs.Places.{address_of}
use Rattle.usb_model.specs.Stands.{total}
use Rattle.usb_model.specs.Kept.{Completion, KeptEndpoint, KeptTransfer, Telling, first_place}
use Rattle.usb_model.specs.Events.{find_at, past_kept_blanks}
use Rattle.usb_model.specs.Packets.{event_at, sent_before, walk}
use Rattle.usb_model.specs.Commands as kept
use Rattle.usb_rings.specs.Line.{Line, all_of, moved_behind, places}
use Rattle.usb_xhc.specs.Ahead.{ahead}
use Rattle.usb_xhc.specs.Commands.{Carried, before, carried, move_in, moved_at, pause_by, reset_in, stop_in}
use Rattle.usb_xhc.specs.Context.{Context}
use Rattle.usb_xhc.specs.Transaction.{trb_at}
use Rattle.usb_xhc.proofs.Moves.{at_place, found-none, found-there}
use Rattle.refine_rings.specs.Endpoint.{IsContext, IsFresh}
use Rattle.refine_rings.specs.EndpointLaws.{CarriesAs, IsOrder}
use Rattle.refine_rings.specs.Line.{IsLine}
use Rattle.refine_rings.specs.Reports.{event_of}
use Rattle.refine_rings.proofs.Changes.{moves_behind, place_behind_is}
use Rattle.refine_rings.proofs.Contents.{blanks_span, contents_end}
use Rattle.refine_rings.proofs.Fronts.{IsFront, at_front, first_is}
use Rattle.refine_rings.proofs.Goes.{blanks_below, starts_blanks}
use Rattle.refine_rings.proofs.Lines.{none_behind, spans}
use Rattle.refine_rings.proofs.Serves.{same_event, trb_there}
use Rattle.refine_rings.proofs.Where.{same_address}

-- an order that fails
fails : (c : Context) (b : KeptEndpoint) (index : ℕ) (r : Carried) (a : kept.Carried) → IsContext c b → r ≡ record { code = 19; context = c; events = [] } → a ≡ kept.carried false index b [] → CarriesAs c b index r a
fails c b index r a is e f =
    subst₂ (λ (x : Carried) (y : kept.Carried). CarriesAs c b index x y) (sym e) (sym f)
    (record { code = refl; told = λ commands. refl; context = is; pipe = λ p q. q })

-- the pause of the transfer where the controller stands
same_pause : (c : Context) (b : KeptEndpoint) (commands : ℕ) → IsContext c b → IsFresh b → pause_by c (trb_at c 0) ≡ map (event_of commands c) (kept.pause_at b (find_at b.dequeue b.line))
same_pause c b commands is (inl at_end) =
    let none : trb_at c 0 ≡ None = ap (λ (ts : List NormalTrb). option_map (trb_there c) (slice_get ts 0)) (ap ahead (contents_end c.size c.ring.line b.line b.end b.dequeue is.ring at_end)) in
    let left : find_at b.dequeue b.line ≡ None = none_behind b.line b.end b.dequeue is.ring.row (omega (arith, at_end)) in
    ap (pause_by c) none ∙ ap (λ (o : Option KeptTransfer). map (event_of commands c) (kept.pause_at b o)) (sym left)
same_pause c b commands is (inr there) =
    let y : KeptTransfer = there.0 in
    let f : IsFront c b y = at_front c b y is there.1 there.2 in
    let t = first_is c b y f in
    let it : trb_at c 0 ≡ Some (trb_there c t.0) = ap (λ (o : Option NormalTrb). option_map (trb_there c) o) t.1 in
    let event = same_event c b y 0 stopped commands is f in
    ap (pause_by c) it
    ∙ ap₂ (λ (g : Bool) (e : TrbKind). if g then e ∷ [] else []) (is.front y there.1).begun event
    ∙ by_count (sent_before b y)
    ∙ ap (λ (o : Option KeptTransfer). map (event_of commands c) (kept.pause_at b o)) (sym there.1)
  where
    not_none : (n : ℕ) (t : Bool) → (suc n == 0) ≡ t → t ≡ false
    not_none n true e = absurd (omega (arith, eqb-true (suc n) 0 e))
    not_none n false e = refl

    by_count : (n : ℕ) → (if nat_lt 0 n then event_of commands c (event_at b there.0 (walk b there.0 0) stopped) ∷ [] else [])
        ≡ map (event_of commands c) (if◌then◌else◌ {A = List Telling} (n == 0) [] (event_at b there.0 (walk b there.0 0) stopped ∷ []))
    by_count zero = refl
    by_count (suc n) =
        ap (λ (g : Bool). if g then event_of commands c (event_at b there.0 (walk b there.0 0) stopped) ∷ [] else []) (lt-ltb 0 (suc n) (omega arith))
        ∙ ap (λ (g : Bool). map (event_of commands c) (if◌then◌else◌ {A = List Telling} g [] (event_at b there.0 (walk b there.0 0) stopped ∷ []))) (sym (not_none n (suc n == 0) refl))

-- events and a completion
told_with : (c : Context) (commands index code : ℕ) (es : List TrbKind) (ts : List Telling) → es ≡ map (event_of commands c) ts
    → es ++ CommandCompletion (address_of 255 commands index) code c.slot ∷ [] ≡ map (event_of commands c) (ts ++ Completion index code ∷ [])
told_with c commands index code es ts e = ap (λ (l : List TrbKind). l ++ CommandCompletion (address_of 255 commands index) code c.slot ∷ []) e ∙ sym (map-append (event_of commands c) ts (Completion index code ∷ []))

-- another state is nothing to its ring
in_state : (c : Context) (b : KeptEndpoint) (s : EndpointState) → IsContext c b → IsContext (record c { state = s }) (record b { state = s })
in_state c b s is = record {
  ring = is.ring;
  runs = refl;
  partly = is.partly;
  front = λ z h. let f = is.front z h in record { begun = f.begun; fits = f.fits };
  rests = is.rests;
}

stops : (c : Context) (b : KeptEndpoint) (index : ℕ) → IsContext c b → (b.state ≡ Running → IsFresh b) → CarriesAs c b index (stop_in c c.state) (kept.carry index b errand.Stop b.state)
unfolding kept.carry
stops c b index is fresh = by_state b.state refl
  where
    to : (s : EndpointState) → b.state ≡ s → CarriesAs c b index (stop_in c s) (kept.carry index b errand.Stop s) → CarriesAs c b index (stop_in c c.state) (kept.carry index b errand.Stop b.state)
    to s e h = subst₂ (λ (x y : EndpointState). CarriesAs c b index (stop_in c x) (kept.carry index b errand.Stop y)) (sym (is.runs ∙ e)) (sym e) h

    by_state : (s : EndpointState) → b.state ≡ s → CarriesAs c b index (stop_in c c.state) (kept.carry index b errand.Stop b.state)
    by_state Running e = to Running e (record {
      code = refl;
      told = λ commands. told_with c commands index 1 (pause_by c (trb_at c 0)) (kept.pause_at b (find_at b.dequeue b.line)) (same_pause c b commands is (fresh e));
      context = in_state c b Stopped is;
      pipe = λ p q. record { left = q.left; halted = q.halted; taken = q.taken };
    })
    by_state Stopped e = to Stopped e (fails c b index (stop_in c Stopped) (kept.carry index b errand.Stop Stopped) is refl refl)
    by_state Halted e = to Halted e (fails c b index (stop_in c Halted) (kept.carry index b errand.Stop Halted) is refl refl)

resets : (c : Context) (b : KeptEndpoint) (index : ℕ) → IsContext c b → CarriesAs c b index (reset_in c c.state) (kept.carry index b errand.Reset b.state)
unfolding kept.carry
resets c b index is = by_state b.state refl
  where
    to : (s : EndpointState) → b.state ≡ s → CarriesAs c b index (reset_in c s) (kept.carry index b errand.Reset s) → CarriesAs c b index (reset_in c c.state) (kept.carry index b errand.Reset b.state)
    to s e h = subst₂ (λ (x y : EndpointState). CarriesAs c b index (reset_in c x) (kept.carry index b errand.Reset y)) (sym (is.runs ∙ e)) (sym e) h

    by_state : (s : EndpointState) → b.state ≡ s → CarriesAs c b index (reset_in c c.state) (kept.carry index b errand.Reset b.state)
    by_state Halted e = to Halted e (record {
      code = refl;
      told = λ commands. refl;
      context = in_state c b Stopped is;
      pipe = λ p q. record { left = q.left; halted = q.halted; taken = q.taken };
    })
    by_state Running e = to Running e (fails c b index (reset_in c Running) (kept.carry index b errand.Reset Running) is refl refl)
    by_state Stopped e = to Stopped e (fails c b index (reset_in c Stopped) (kept.carry index b errand.Reset Stopped) is refl refl)

-- the place of an order's address, so many behind the line's first
abbrev way : KeptEndpoint → ℕ
way b = first_place (past_kept_blanks b.line) b.end - first_place b.line b.end

-- where the line begins behind its blanks
record Way (c : Context) (b : KeptEndpoint) : Type 0 where
  pub whole : first_place b.line b.end + way b ≡ first_place (past_kept_blanks b.line) b.end
  pub below : way b ≤ length (all_of c.ring.line.items)
  pub few : length (all_of c.ring.line.items) ≤ 126
  pub ends : first_place b.line b.end + way b ≤ b.end

way_is : (c : Context) (b : KeptEndpoint) → IsContext c b → Way c b
way_is c b is =
    let span = spans c.size b.line c.ring.line.items b.end is.ring.items is.ring.row in
    let blank = blanks_span c.size b.line c.ring.line.items b.end is.ring.items is.ring.row in
    let ends = blanks_below c.size b.line c.ring.line.items b.end is.ring.items is.ring.row in
    let few = is.ring.few in
    record { whole = omega (arith, blank); below = omega (arith, blank, span, ends); few = omega (arith, span, few); ends = omega (arith, blank, ends) }

-- that address is found there, and nowhere else
found_way : (c : Context) (b : KeptEndpoint) → IsContext c b → before c.ring.line (address_of places c.ring.line.base (first_place (past_kept_blanks b.line) b.end)) ≡ Some (way b)
found_way c b is = by_found (before l p) refl
  where
    l : Line
    l = c.ring.line

    p : ℕ
    p = address_of places l.base (first_place (past_kept_blanks b.line) b.end)

    w : Way c b
    w = way_is c b is

    at_is : (n : ℕ) → at_place l n ≡ address_of places l.base (first_place b.line b.end + n)
    at_is n = ap (address_of places l.base) (place_behind_is c.size l b.line b.end b.dequeue n is.ring) ∙ same_address l.base (first_place b.line b.end + n)

    there : p ≡ at_place l (way b)
    there = ap (address_of places l.base) (sym w.whole) ∙ sym (at_is (way b))

    only : (f m n base : ℕ) → m ≤ 126 → n ≤ 126 → base + 16 * ((f + m) % 127) ≡ base + 16 * ((f + n) % 127) → m ≡ n
    only f m n base few near e = omega (arith, few, near, e)

    by_found : (o : Option ℕ) → before l p ≡ o → before l p ≡ Some (way b)
    by_found None e = absurd (found-none l p (length (all_of l.items)) (way b) e w.below there)
    by_found (Some m) e =
        let f = found-there l p (length (all_of l.items)) m e in
        let near = f.0 in
        let few = w.few in
        let below = w.below in
        let same = only (first_place b.line b.end) m (way b) l.base (omega (arith, near, few)) (omega (arith, below, few)) (sym (at_is m) ∙ sym f.1 ∙ there ∙ at_is (way b)) in
        e ∙ ap (λ (n : ℕ). Some n) same

moves : (c : Context) (b : KeptEndpoint) (index : ℕ) → IsContext c b
    → CarriesAs c b index (move_in c (address_of places c.ring.line.base (first_place (past_kept_blanks b.line) b.end)) c.state) (kept.carry index b errand.Move b.state)
unfolding kept.carry
moves c b index is = by_state b.state refl
  where
    p : ℕ
    p = address_of places c.ring.line.base (first_place (past_kept_blanks b.line) b.end)

    to : (s : EndpointState) → b.state ≡ s → CarriesAs c b index (move_in c p s) (kept.carry index b errand.Move s) → CarriesAs c b index (move_in c p c.state) (kept.carry index b errand.Move b.state)
    to s e h = subst₂ (λ (x y : EndpointState). CarriesAs c b index (move_in c p x) (kept.carry index b errand.Move y)) (sym (is.runs ∙ e)) (sym e) h

    moved : CarriesAs c b index (moved_at c (Some (way b))) (kept.carry index b errand.Move Stopped)
    moved =
        let w = way_is c b is in
        record {
          code = refl;
          told = λ commands. refl;
          context = record {
            ring = subst (λ n. IsLine c.size (moved_behind c.ring.line (way b)) b.line b.end n) w.whole (moves_behind c.size c.ring.line b.line b.end b.dequeue (way b) is.ring w.ends);
            runs = is.runs;
            partly = refl;
            front = λ z h.
                let at = starts_blanks c.size b.line c.ring.line.items b.end z is.ring.items is.ring.row h in
                let none : first_place (past_kept_blanks b.line) b.end - z.place ≡ 0 = omega (arith, at) in
                record { begun = ap (λ (n : ℕ). nat_lt 0 (total (take n z.lengths) + 0)) (sym none); fits = omega arith };
            rests = λ e. (refl, refl);
          };
          pipe = λ q k. record { left = k.left; halted = k.halted; taken = k.taken };
        }

    by_state : (s : EndpointState) → b.state ≡ s → CarriesAs c b index (move_in c p c.state) (kept.carry index b errand.Move b.state)
    by_state Stopped e = to Stopped e (subst (λ (o : Option ℕ). CarriesAs c b index (moved_at c o) (kept.carry index b errand.Move Stopped)) (sym (found_way c b is)) moved)
    by_state Running e = to Running e (fails c b index (move_in c p Running) (kept.carry index b errand.Move Running) is refl refl)
    by_state Halted e = to Halted e (fails c b index (move_in c p Halted) (kept.carry index b errand.Move Halted) is refl refl)

pub carries : (c : Context) (b : KeptEndpoint) (index : ℕ) (o : Errand) (k : TrbKind) → IsContext c b → (b.state ≡ Running → IsFresh b) → IsOrder c b o k → CarriesAs c b index (carried k c) (kept.carry index b o b.state)
unfolding carried
carries c b index errand.Stop k is fresh e = subst (λ (x : TrbKind). CarriesAs c b index (carried x c) (kept.carry index b errand.Stop b.state)) (sym e) (stops c b index is fresh)
carries c b index errand.Reset k is fresh e = subst (λ (x : TrbKind). CarriesAs c b index (carried x c) (kept.carry index b errand.Reset b.state)) (sym e) (resets c b index is)
carries c b index errand.Move k is fresh e = subst (λ (x : TrbKind). CarriesAs c b index (carried x c) (kept.carry index b errand.Move b.state)) (sym e) (moves c b index is)
