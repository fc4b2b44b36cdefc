-- A submission's TRBs join the ring behind the others, and the controller stands where it stood.
use Rattle.std.proofs.Common.{Bool, List, Option, Some, [], ap, ap₂, arith, false, length, length-append, refl, replicate, sym, true, ℕ, ◌+◌, ◌++◌, ◌-◌, ◌*◌, ◌<◌, ◌∙◌, ◌∷◌, ◌≡◌}
use Rattle.std.specs.Prelude.{if◌then◌else◌, unwrap_or}
use Rattle.usb_model.specs.declared.errand.Errand.{Errand}
use Rattle.usb_model.specs.declared.endpoint.Endpoint.{Endpoint}
use Rattle.usb_model.specs.declared.item.Item.{Item}
use Rattle.usb_model.specs.declared.item.ItemState.TheVariants.{Blank, Served, Waiting}
use Rattle.usb_model.specs.declared.item.ItemState.{ItemState}
use Rattle.usb_model.specs.declared.news.Event.TheVariants.{Finished, Paused, Settled}
use Rattle.usb_model.specs.declared.news.Event.{Event}
use Rattle.usb_model.specs.declared.request.Request.{Request}
use Rattle.usb_model.specs.declared.request.Body.{Body}
use Rattle.usb_model.specs.declared.request.Body.TheVariants.{In, Out}
use Rattle.usb_model.specs.Endpoint.{bytes_read, first_waiting, is_waiting, new_item, outcome_of}
use Rattle.usb_model.specs.Endpoint.Packets.{open_with}
use Rattle.proof_model.proofs.Work.Errands.{events-push}
use Rattle.proof_model.proofs.Shares.OpenShares.{outcome_nothing}
use Rattle.usb_model.specs.Requests.{length_of}
use Rattle.usb_model.specs.Stands.{full_trbs, stand}
use Rattle.refine_world.specs.ShownEndpoint.{AllKept, FirstPaused, FrontKnown, IsKept, ShowsEnd, count, front, front_of, known_by, pause_told, tail_told, telling_of, told_by, told_of}
use Rattle.usb_model.specs.Kept.{Completion, InRow, KeptEndpoint, KeptTransfer, SentErrand, Telling, code_of, first_place, index_of, is_extra, trbs_of}
use Rattle.usb_model.specs.Joins.{joined, new_kept}
use Rattle.refine_world.proofs.Fronts.{none_moved, starts}

some_trbs : (size : ℕ) (request : Request) → 0 < length (trbs_of size request)
some_trbs size request = omega (arith, length-append (replicate (full_trbs (length_of request.body)) 65536) ((length_of request.body - full_trbs (length_of request.body) * 65536) ∷ (if is_extra size request request.body then 0 ∷ [] else [])))

-- nothing was read yet
none_read : (size n : ℕ) (request : Request) (round : ℕ) → [] ≡ bytes_read request.body (outcome_of size (new_item n request round))
none_read size n request round = by_body request.body
  where
    by_body : (body : Body) → [] ≡ bytes_read body (outcome_of size (new_item n request round))
    by_body (In k) = ap (λ o. bytes_read (In k) (unwrap_or o (open_with []))) (sym (outcome_nothing request size))
    by_body (Out bytes) = refl

kept_new : (size place n : ℕ) (request : Request) (round : ℕ) → IsKept size (new_item n request round) (new_kept size place n request round)
kept_new size place n request round = record {
  blank = refl;
  some = some_trbs size request;
  live = λ q. record {
    n = refl;
    request = refl;
    round = refl;
    ask = refl;
    bytes = none_read size n request round;
    lengths = refl;
    fits = omega (arith, none_moved size (new_item n request round) refl);
    unmoved = λ m. refl;
  };
}

-- a line with one more
record Joins (size : ℕ) (xs : List Item) (ys : List KeptTransfer) (end : ℕ) (x : Item) (y : KeptTransfer) (end' : ℕ) : Type 0 where
  kept : AllKept size (xs ++ x ∷ []) (ys ++ y ∷ [])
  row : InRow (ys ++ y ∷ []) end'
  begins : first_place (ys ++ y ∷ []) end' ≡ first_place ys end
  told : told_of size (xs ++ x ∷ []) (ys ++ y ∷ []) ≡ told_of size xs ys
  stands : front size (xs ++ x ∷ []) (ys ++ y ∷ []) end' ≡ front size xs ys end
  known : FrontKnown size xs ys → FrontKnown size (xs ++ x ∷ []) (ys ++ y ∷ [])
  first : (z : Item) → first_waiting xs ≡ Some z → (first_waiting (xs ++ x ∷ []) ≡ Some z) × (pause_told size (xs ++ x ∷ []) (ys ++ y ∷ []) ≡ pause_told size xs ys)

joins : (size : ℕ) (xs : List Item) (ys : List KeptTransfer) (end n : ℕ) (request : Request) (round : ℕ) → AllKept size xs ys → InRow ys end
    → Joins size xs ys end (new_item n request round) (new_kept size end n request round) (end + length (trbs_of size request))
unfolding told_of front first_waiting pause_told
joins size [] [] end n request round k row =
    let x : Item = new_item n request round in
    let at : stand (trbs_of size request) (count size x) ≡ record { index = 0; within = 0 } = ap (stand (trbs_of size request)) (none_moved size x refl) ∙ starts size request in
    record {
      kept = (kept_new size end n request round, tt);
      row = (refl, tt);
      begins = refl;
      told = refl;
      stands = rw at (ap (λ p. record { place = p; within = 0 }) (let same : end + 0 ≡ end = omega arith in same));
      known = λ q. sym (none_moved size x refl);
      first = λ z e. absurd cc;
    }
joins size [] (y ∷ ys) end n request round k row = absurd k
joins size (x ∷ xs) [] end n request round k row = absurd k
joins size (x ∷ xs) (y ∷ ys) end n request round k row =
    let r = joins size xs ys end n request round k.1 row.1 in
    record {
      kept = (k.0, r.kept);
      row = (r.begins ∙ row.0, r.row);
      begins = refl;
      told = ap (told_by size x y x.state) r.told;
      stands = ap (λ f. if is_waiting x then front_of size x y else f) r.stands;
      known = by_known x.state r.known;
      first = λ z e. by_first z (is_waiting x) e (r.first z);
    }
  where
    more : Item
    more = new_item n request round

    kept : KeptTransfer
    kept = new_kept size end n request round

    by_known : (s : ItemState) → (FrontKnown size xs ys → FrontKnown size (xs ++ more ∷ []) (ys ++ kept ∷ [])) → known_by s (y.moved ≡ count size x) (FrontKnown size xs ys) → known_by s (y.moved ≡ count size x) (FrontKnown size (xs ++ more ∷ []) (ys ++ kept ∷ []))
    by_known Waiting rest q = q
    by_known (Served c) rest q = rest q
    by_known Blank rest q = rest q

    by_first : (z : Item) (b : Bool) → (if b then Some x else first_waiting xs) ≡ Some z
        → (first_waiting xs ≡ Some z → (first_waiting (xs ++ more ∷ []) ≡ Some z) × (pause_told size (xs ++ more ∷ []) (ys ++ kept ∷ []) ≡ pause_told size xs ys))
        → ((if b then Some x else first_waiting (xs ++ more ∷ [])) ≡ Some z) × ((if b then telling_of size x y 26 ∷ [] else pause_told size (xs ++ more ∷ []) (ys ++ kept ∷ [])) ≡ (if b then telling_of size x y 26 ∷ [] else pause_told size xs ys))
    by_first z true e rest = (e, refl)
    by_first z false e rest = rest e

-- a pause is that of a transfer that stood there before
tail_joined : (size : ℕ) (xs xs' : List Item) (ys ys' : List KeptTransfer) (sent : Option SentErrand) (tail : List Event) → ((z : Item) → first_waiting xs ≡ Some z → (first_waiting xs' ≡ Some z) × (pause_told size xs' ys' ≡ pause_told size xs ys)) → FirstPaused xs tail
    → (tail_told size xs' ys' sent tail ≡ tail_told size xs ys sent tail) × FirstPaused xs' tail
tail_joined size xs xs' ys ys' sent [] f p = (refl, tt)
tail_joined size xs xs' ys ys' sent (Finished n code ∷ es) f p = tail_joined size xs xs' ys ys' sent es f p
tail_joined size xs xs' ys ys' sent (Paused n ∷ es) f p =
    let r = tail_joined size xs xs' ys ys' sent es f p.1 in
    let q = f p.0.0 p.0.1 in
    (ap₂ (λ l m. l ++ m) q.1 r.0, ((p.0.0, q.0, p.0.2), r.1))
tail_joined size xs xs' ys ys' sent (Settled errand ok ∷ es) f p =
    let r = tail_joined size xs xs' ys ys' sent es f p in
    (ap (λ l. Completion (index_of sent) (code_of ok) ∷ l) r.0, r.1)

-- a submission that is accepted
pub submit_shows : (size : ℕ) (e : Endpoint) (os : List Errand) (ns : List Event) (b : KeptEndpoint) (sent : List SentErrand) (told : List Telling) (n : ℕ) (request : Request) (round : ℕ) → ShowsEnd size e os ns b sent told
    → ShowsEnd size (record e { line = e.line ++ new_item n request round ∷ [] }) os ns (joined size b n request round) sent told
submit_shows size e os ns b sent told n request round s =
    let j = joins size e.line b.line b.end n request round s.kept s.row in
    let t = tail_joined size e.line (e.line ++ new_item n request round ∷ []) b.line (b.line ++ new_kept size b.end n request round ∷ []) b.errand s.tail j.first s.paused in
    record {
      tail = s.tail;
      news = s.news ∙ ap (λ l. l ++ s.tail) (sym (events-push e.line (new_item n request round) refl));
      kept = j.kept;
      row = j.row;
      state = s.state;
      errand = s.errand;
      script_left = s.script_left;
      device_halted = s.device_halted;
      packets_received = s.packets_received;
      told_is = s.told_is ∙ ap₂ (λ l m. l ++ m) (sym j.told) (sym t.0);
      sent_is = s.sent_is;
      stands = λ q. s.stands q ∙ sym j.stands;
      paused = t.1;
      known = λ q r. j.known (s.known q r);
    }
