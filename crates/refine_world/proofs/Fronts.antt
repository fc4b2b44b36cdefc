-- The first waiting transfer is the one where the controller stands, and another may be put in its place.
use Rattle.std.proofs.Common.{Bool, List, None, Some, [], ap, append_assoc, arith, ap₂, false, length, refl, replicate, suc, subst, subst₂, sym, true, zero, ℕ, ◌+◌, ◌++◌, ◌-◌, ◌*◌, ◌%◌, ◌<◌, ◌≤◌, ◌==◌, ◌∙◌, ◌∷◌, ◌≡◌}
use Rattle.std.specs.Prelude.{if◌then◌else◌, nat_lt, not, unwrap_or}
use Rattle.std.proofs.lemmas.Bool.{and_parts, lt-ltb}
use Rattle.usb_model.specs.declared.item.Item.{Item}
use Rattle.usb_model.specs.declared.item.ItemState.TheVariants.{Blank, Served, Waiting}
use Rattle.usb_model.specs.declared.item.ItemState.{ItemState}
use Rattle.usb_model.specs.Endpoint.{first_waiting, is_blank_state, is_waiting, is_waiting_state, with_first}
use Rattle.usb_model.specs.Coherence.{ServedFirst, event_by, first_by, served_events}
use Rattle.usb_model.specs.declared.request.Body.{Body}
use Rattle.usb_model.specs.declared.request.Body.TheVariants.{In, Out}
use Rattle.usb_model.specs.declared.request.Request.{Request}
use Rattle.usb_model.specs.Endpoint.Packets.{count_of, open_with}
use Rattle.usb_model.specs.Requests.{adds_zero_packet, length_of}
use Rattle.proof_model.proofs.Shares.OpenShares.{outcome_nothing}
use Rattle.usb_model.specs.Stands.{full_trbs, lengths_of, stand}
use Rattle.refine_world.specs.ShownEndpoint.{AllKept, AllNew, FrontKnown, pause_told, IsKept, IsLive, NewBehind, count, front, front_of, known_by, new_by, telling_of, told_by, told_of}
use Rattle.usb_model.specs.Kept.{InRow, KeptTransfer, Telling, first_place, is_extra, trbs_of}
use Rattle.usb_model.specs.Events.{find_at, past_at, past_kept_blanks}
use Rattle.usb_model.specs.Packets.{put_at}
use Rattle.refine_world.proofs.FirstServed.{covers_past, pointer, points}

-- nothing is told of a line where nothing was served
pub told_none : (size : ℕ) (xs : List Item) (ys : List KeptTransfer) → served_events xs ≡ [] → told_of size xs ys ≡ []
unfolding served_events told_of
told_none size [] ys e = refl
told_none size (x ∷ xs) [] e = refl
told_none size (x ∷ xs) (y ∷ ys) e = by_state x.state e (told_none size xs ys)
  where
    by_state : (s : ItemState) → event_by x.n s (served_events xs) ≡ [] → (served_events xs ≡ [] → told_of size xs ys ≡ []) → told_by size x y s (told_of size xs ys) ≡ []
    by_state Waiting e rest = rest e
    by_state (Served code) e rest = absurd cc
    by_state Blank e rest = rest e

-- a transfer that took nothing stands at its first TRB
pub none_moved : (size : ℕ) (x : Item) → x.share ≡ [] → count size x ≡ 0
none_moved size x none = ap (λ l. count size (record x { share = l })) none ∙ ap (λ o. count_of (unwrap_or o (open_with []))) (outcome_nothing x.request size)

pub starts : (size : ℕ) (request : Request) → stand (trbs_of size request) 0 ≡ record { index = 0; within = 0 }
starts size request = by_body request.body
  where
    by_full : (extra : Bool) (n k : ℕ) → (extra ≡ true → k ≡ 0 → 0 < n) → stand (replicate k 65536 ++ (n - k * 65536) ∷ (if extra then 0 ∷ [] else [])) 0 ≡ record { index = 0; within = 0 }
    by_full false n zero some = refl
    by_full true n zero some = let less : nat_lt 0 (n - zero * 65536) ≡ true = lt-ltb 0 (n - zero * 65536) (omega (arith, some refl refl)) in rw less refl
    by_full extra n (suc zero) some = refl
    by_full extra n (suc (suc k)) some = refl

    by_body : (body : Body) → stand (lengths_of (is_extra size request body) (length_of body)) 0 ≡ record { index = 0; within = 0 }
    by_body (In n) = by_full false n (full_trbs n) (λ e. absurd cc)
    by_body (Out bytes) = by_full (is_extra size request (Out bytes)) (length bytes) (full_trbs (length bytes)) (λ extra k. by_length (length bytes) (and_parts (not (length bytes == 0)) (length bytes % size == 0) (and_parts (adds_zero_packet request) _ extra).1).0)
      where
        by_length : (n : ℕ) → not (n == 0) ≡ true → 0 < n
        by_length zero e = absurd cc
        by_length (suc n) e = omega arith

-- past blanks, the controller stands at the first of the waiting transfers, where these took nothing
pub front_new : (size : ℕ) (xs : List Item) (ys : List KeptTransfer) (end : ℕ) → AllKept size xs ys → served_events xs ≡ [] → AllNew xs → front size xs ys end ≡ record { place = first_place (past_kept_blanks ys) end; within = 0 }
unfolding served_events front past_kept_blanks
front_new size [] [] end k none new = refl
front_new size [] (y ∷ ys) end k none new = absurd k
front_new size (x ∷ xs) [] end k none new = absurd k
front_new size (x ∷ xs) (y ∷ ys) end k none new = by_state x.state refl none new (front_new size xs ys end k.1)
  where
    by_state : (s : ItemState) → x.state ≡ s → event_by x.n s (served_events xs) ≡ [] → new_by s x (AllNew xs)
        → (served_events xs ≡ [] → AllNew xs → front size xs ys end ≡ record { place = first_place (past_kept_blanks ys) end; within = 0 })
        → front size (x ∷ xs) (y ∷ ys) end ≡ record { place = first_place (past_kept_blanks (y ∷ ys)) end; within = 0 }
    by_state Waiting st none new rest =
        let live : IsLive size x y = k.0.live (ap is_blank_state st) in
        let waits : is_waiting x ≡ true = ap is_waiting_state st in
        let lives : y.blank ≡ false = k.0.blank ∙ ap is_blank_state st in
        let at : stand y.lengths (count size x) ≡ record { index = 0; within = 0 } = ap₂ stand live.lengths (none_moved size x new.0) ∙ starts size x.request in
        rw (waits, lives, at) (ap (λ p. record { place = p; within = 0 }) (let same : y.place + 0 ≡ y.place = omega arith in same))
    by_state (Served c) st none new rest = absurd cc
    by_state Blank st none new rest =
        let waits : is_waiting x ≡ false = ap is_waiting_state st in
        let gone : y.blank ≡ true = k.0.blank ∙ ap is_blank_state st in
        rw (waits, gone) (rest none new)

-- another transfer in the place of the one that stood there
pub record Puts (size : ℕ) (xs : List Item) (ys : List KeptTransfer) (end p : ℕ) (x : Item) (y : KeptTransfer) (x' : Item) (y' : KeptTransfer) : Type 0 where
  pub kept : AllKept size (with_first x' xs) (put_at p y' ys)
  pub row : InRow (put_at p y' ys) end
  pub first : first_place (put_at p y' ys) end ≡ first_place ys end
  pub waits : x'.state ≡ Waiting → (told_of size (with_first x' xs) (put_at p y' ys) ≡ told_of size xs ys) × (front size (with_first x' xs) (put_at p y' ys) end ≡ front_of size x' y')
  pub knows : x'.state ≡ Waiting → y'.moved ≡ count size x' → FrontKnown size (with_first x' xs) (put_at p y' ys)
  pub after : (code : ℕ) → x'.state ≡ Served code → NewBehind xs → front size (with_first x' xs) (put_at p y' ys) end ≡ record { place = first_place (past_kept_blanks (past_at p ys)) end; within = 0 }
  pub served : (code : ℕ) → x'.state ≡ Served code → told_of size (with_first x' xs) (put_at p y' ys) ≡ told_of size xs ys ++ telling_of size x' y' code ∷ []

-- the first waiting transfer, as it is kept
pub record Fronted (size : ℕ) (xs : List Item) (ys : List KeptTransfer) (end : ℕ) (x : Item) : Type 0 where
  pub y : KeptTransfer
  pub p : ℕ
  pub at : p ≡ pointer size x y
  pub waiting : x.state ≡ Waiting
  pub live : IsLive size x y
  pub blank : y.blank ≡ false
  pub some : 0 < length y.lengths
  pub stands : front size xs ys end ≡ front_of size x y
  pub found : find_at p ys ≡ Some y
  pub paused : pause_told size xs ys ≡ telling_of size x y 26 ∷ []
  pub known : y.moved ≡ count size x → FrontKnown size xs ys
  pub low : first_place ys end ≤ p
  pub puts : (x' : Item) (y' : KeptTransfer) → IsKept size x' y' → y'.place ≡ y.place → y'.lengths ≡ y.lengths → Puts size xs ys end p x y x' y'

pub fronts : (size : ℕ) (xs : List Item) (ys : List KeptTransfer) (end : ℕ) (x : Item) → AllKept size xs ys → InRow ys end → ServedFirst xs → first_waiting xs ≡ Some x → Fronted size xs ys end x
unfolding first_waiting served_events front told_of find_at past_at put_at with_first pause_told
fronts size [] ys end x k row f e = absurd cc
fronts size (z ∷ xs) [] end x k row f e = absurd k
fronts size (z ∷ xs) (y ∷ ys) end x k row f e = by_state z.state refl f e (fronts size xs ys end x k.1 row.1)
  where
    here : z.state ≡ Waiting → served_events xs ≡ [] → Fronted size (z ∷ xs) (y ∷ ys) end z
    here st none =
        let live : IsLive size z y = k.0.live (ap is_blank_state st) in
        let waits : is_waiting z ≡ true = ap is_waiting_state st in
        let yes = points size z y k.0.some live in
        record {
          y = y;
          p = pointer size z y;
          at = refl;
          waiting = st;
          live = live;
          blank = k.0.blank ∙ ap is_blank_state st;
          some = k.0.some;
          stands = rw waits refl;
          found = rw yes refl;
          paused = rw waits refl;
          known = λ m. subst (λ (T : Type 0). T) (sym (ap (λ s. known_by s (y.moved ≡ count size z) (FrontKnown size xs ys)) st)) m;
          low = omega arith;
          puts = λ x' y' k' place lengths.
              let items : with_first x' (z ∷ xs) ≡ x' ∷ xs = rw waits refl in
              let keeps : put_at (pointer size z y) y' (y ∷ ys) ≡ y' ∷ ys = rw yes refl in
              let nothing : told_of size xs ys ≡ [] = told_none size xs ys none in
              let before : told_of size (z ∷ xs) (y ∷ ys) ≡ [] = ap (λ s. told_by size z y s (told_of size xs ys)) st ∙ nothing in
              record {
                kept = subst₂ (AllKept size) (sym items) (sym keeps) (k', k.1);
                row = subst (λ l. InRow l end) (sym keeps) (rw (place, lengths) row.0, row.1);
                first = ap (λ l. first_place l end) keeps ∙ place;
                waits = λ st'. (
                  ap₂ (told_of size) items keeps ∙ (ap (λ s. told_by size x' y' s (told_of size xs ys)) st' ∙ (nothing ∙ sym before)),
                  ap₂ (λ a l. front size a l end) items keeps ∙ (let t : is_waiting x' ≡ true = ap is_waiting_state st' in rw t refl),
                );
                knows = λ st' m. subst₂ (FrontKnown size) (sym items) (sym keeps) (subst (λ (T : Type 0). T) (sym (ap (λ s. known_by s (y'.moved ≡ count size x') (FrontKnown size xs ys)) st')) m);
                after = λ code st' new.
                    let passed : past_at (pointer size z y) (y ∷ ys) ≡ ys = rw yes refl in
                    ap₂ (λ a l. front size a l end) items keeps ∙ (let t : is_waiting x' ≡ false = ap is_waiting_state st' in rw (t, passed) (front_new size xs ys end k.1 none (subst (λ (T : Type 0). T) (ap (λ s. known_by s (AllNew xs) (NewBehind xs)) st) new)));
                served = λ code st'. ap₂ (told_of size) items keeps ∙ (ap (λ s. told_by size x' y' s (told_of size xs ys)) st' ∙ (ap (λ l. telling_of size x' y' code ∷ l) nothing ∙ ap (λ l. l ++ telling_of size x' y' code ∷ []) (sym before)));
              };
        }

    later : is_waiting z ≡ false → (first_waiting xs ≡ Some x → Fronted size xs ys end x) → first_waiting xs ≡ Some x → ((ts : List Telling) → (ws : List Telling) × ((us : List Telling) → told_by size z y z.state us ≡ ws ++ us)) → ((P Q : Type 0) → known_by z.state P Q ≡ Q) → Fronted size (z ∷ xs) (y ∷ ys) end x
    later not_it rest e told known =
        let r = rest e in
        let behind : y.place + length y.lengths ≤ r.p = omega (arith, r.low, row.0) in
        let past = covers_past r.p y behind in
        let w = told [] in
        record {
          y = r.y;
          p = r.p;
          at = r.at;
          waiting = r.waiting;
          live = r.live;
          blank = r.blank;
          some = r.some;
          stands = rw not_it r.stands;
          found = rw past r.found;
          paused = rw not_it r.paused;
          known = λ m. subst (λ (T : Type 0). T) (sym (known (y.moved ≡ count size z) (FrontKnown size xs ys))) (r.known m);
          low = omega (arith, behind);
          puts = λ x' y' k' place lengths.
              let q = r.puts x' y' k' place lengths in
              let items : with_first x' (z ∷ xs) ≡ z ∷ with_first x' xs = rw not_it refl in
              let keeps : put_at r.p y' (y ∷ ys) ≡ y ∷ put_at r.p y' ys = rw past refl in
              record {
                kept = subst₂ (AllKept size) (sym items) (sym keeps) (k.0, q.kept);
                row = subst (λ l. InRow l end) (sym keeps) (q.first ∙ row.0, q.row);
                first = ap (λ l. first_place l end) keeps;
                waits = λ st'. let v = q.waits st' in
                    (ap₂ (told_of size) items keeps ∙ ap (told_by size z y z.state) v.0, ap₂ (λ a l. front size a l end) items keeps ∙ rw not_it v.1);
                knows = λ st' m. subst₂ (FrontKnown size) (sym items) (sym keeps) (subst (λ (T : Type 0). T) (sym (known (y.moved ≡ count size z) (FrontKnown size (with_first x' xs) (put_at r.p y' ys)))) (q.knows st' m));
                after = λ code st' new.
                    let passed : past_at r.p (y ∷ ys) ≡ past_at r.p ys = rw past refl in
                    ap₂ (λ a l. front size a l end) items keeps ∙ rw (not_it, passed) (q.after code st' (subst (λ (T : Type 0). T) (known (AllNew xs) (NewBehind xs)) new));
                served = λ code st'. ap₂ (told_of size) items keeps ∙ (ap (told_by size z y z.state) (q.served code st') ∙ (w.1 (told_of size xs ys ++ telling_of size x' y' code ∷ []) ∙ (sym (append_assoc w.0 (told_of size xs ys) (telling_of size x' y' code ∷ [])) ∙ ap (λ l. l ++ telling_of size x' y' code ∷ []) (sym (w.1 (told_of size xs ys))))));
              };
        }

    by_state : (s : ItemState) → z.state ≡ s → first_by s xs (ServedFirst xs) → (if is_waiting_state s then Some z else first_waiting xs) ≡ Some x → (ServedFirst xs → first_waiting xs ≡ Some x → Fronted size xs ys end x) → Fronted size (z ∷ xs) (y ∷ ys) end x
    by_state Waiting st f e rest = let same : z ≡ x = cc in subst (Fronted size (z ∷ xs) (y ∷ ys) end) same (here st f)
    by_state (Served c) st f e rest = later (ap is_waiting_state st) (rest f) e (λ ts. (telling_of size z y c ∷ [], λ us. ap (λ s. told_by size z y s us) st)) (λ P Q. ap (λ s. known_by s P Q) st)
    by_state Blank st f e rest = later (ap is_waiting_state st) (rest f) e (λ ts. ([], λ us. ap (λ s. told_by size z y s us) st)) (λ P Q. ap (λ s. known_by s P Q) st)

-- where nothing waits nothing need be known
pub known_none : (size : ℕ) (xs : List Item) (ys : List KeptTransfer) → first_waiting xs ≡ None → FrontKnown size xs ys
unfolding first_waiting
known_none size [] ys e = tt
known_none size (x ∷ xs) [] e = tt
known_none size (x ∷ xs) (y ∷ ys) e = by_state x.state e (known_none size xs ys)
  where
    by_state : (s : ItemState) → (if is_waiting_state s then Some x else first_waiting xs) ≡ None → (first_waiting xs ≡ None → FrontKnown size xs ys) → known_by s (y.moved ≡ count size x) (FrontKnown size xs ys)
    by_state Waiting e rest = absurd cc
    by_state (Served c) e rest = rest e
    by_state Blank e rest = rest e

-- and of transfers that took nothing it is known
pub known_new : (size : ℕ) (xs : List Item) (ys : List KeptTransfer) → AllKept size xs ys → AllNew xs → FrontKnown size xs ys
known_new size [] ys k new = tt
known_new size (x ∷ xs) [] k new = tt
known_new size (x ∷ xs) (y ∷ ys) k new = by_state x.state refl new (known_new size xs ys k.1)
  where
    by_state : (s : ItemState) → x.state ≡ s → new_by s x (AllNew xs) → (AllNew xs → FrontKnown size xs ys) → known_by s (y.moved ≡ count size x) (FrontKnown size xs ys)
    by_state Waiting st new rest = let none = none_moved size x new.0 in (k.0.live (ap is_blank_state st)).unmoved none ∙ sym none
    by_state (Served c) st new rest = rest new
    by_state Blank st new rest = rest new
