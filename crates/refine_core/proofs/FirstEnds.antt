-- The transfer whose end is told first is the first in progress of its line.
use Rattle.std.proofs.Common.{List, Some, [], ap, ap₂, arith, false, length, map, refl, subst, subst₂, sym, true, ℕ, ◌+◌, ◌≤◌, ◌==◌, ◌++◌, ◌&&◌, ◌∙◌, ◌∷◌, ◌≡◌}
use Rattle.usb_model.specs.declared.errand.Errand.{Errand}
use Rattle.usb_model.specs.declared.item.Item.{Item}
use Rattle.usb_model.specs.declared.item.ItemState.TheVariants.{Blank, Served, Waiting}
use Rattle.usb_model.specs.declared.item.ItemState.{ItemState}
use Rattle.usb_model.specs.declared.news.Event.TheVariants.{Finished, Paused, Settled}
use Rattle.usb_model.specs.declared.news.Event.{Event}
use Rattle.usb_model.specs.declared.endpoint.Endpoint.{Endpoint}
use Rattle.usb_model.specs.Coherence.{IsCoherent, ServedFirst, event_by, first_by, served_events}
use Rattle.usb_model.specs.Endpoint.{is_blank_state}
use Rattle.usb_model.specs.Setup.{Setup, packet_size_of}
use Rattle.usb_model.specs.World.{World, holder}
use Rattle.proof_model.proofs.Lists.Parts.{heads_same}
use Rattle.proof_model.proofs.Lists.Pieces.{same_name}
use Rattle.usb_model.specs.Kept.{InRow, KeptEndpoint, KeptTransfer, SentErrand, Telling, Transfer, first_place}
use Rattle.usb_model.specs.Events.{find_at, past_kept_blanks}
use Rattle.refine_world.specs.Lively.{IsFine}
use Rattle.refine_world.specs.ShownEndpoint.{AllKept, ShowsEnd, tail_told, telling_of, told_by, told_of}
use Rattle.refine_world.specs.Shows.{AllHeld, At, Core, Report, RingEvent, Shows, Transfers, at, errands, event_at, events, ring_event, tellings}
use Rattle.refine_world.proofs.FirstServed.{covers_past, pointer, points}
use Rattle.refine_world.proofs.Finished.{first_end}
use Rattle.refine_world.proofs.Links.{IsKnown, known}
use Rattle.refine_world.proofs.Pauses.{PausedShows, paused_shows}
use Rattle.refine_world.proofs.Waiters.{first_here}
use Rattle.refine_world.proofs.Settled.{SettledShows, settled_shows}

-- the first served transfer of a line, with what is kept of it, is the first in progress
record Leads (size : ℕ) (xs : List Item) (ys : List KeptTransfer) (end code : ℕ) : Type 0 where
  x : Item
  y : KeptTransfer
  rest : List KeptTransfer
  first : past_kept_blanks ys ≡ y ∷ rest
  tells : List Telling
  told : told_of size xs ys ≡ telling_of size x y code ∷ tells
  found : find_at (pointer size x y) ys ≡ Some y
  low : first_place ys end ≤ pointer size x y

leads : (size : ℕ) (xs : List Item) (ys : List KeptTransfer) (end n code : ℕ) (es : List Event) → AllKept size xs ys → InRow ys end → ServedFirst xs → served_events xs ≡ Finished n code ∷ es → Leads size xs ys end code
unfolding served_events find_at past_kept_blanks told_of
leads size [] ys end n code es k row f e = absurd cc
leads size (x ∷ xs) [] end n code es k row f e = absurd k
leads size (x ∷ xs) (y ∷ ys) end n code es k row f e = by_state x.state refl f e (leads size xs ys end n code es k.1 row.1)
  where
    by_state : (s : ItemState) → x.state ≡ s → first_by s xs (ServedFirst xs) → event_by x.n s (served_events xs) ≡ Finished n code ∷ es
        → (ServedFirst xs → served_events xs ≡ Finished n code ∷ es → Leads size xs ys end code) → Leads size (x ∷ xs) (y ∷ ys) end code
    by_state Waiting st f e rest = absurd (cc (f, e))
    by_state (Served c) st f e rest =
        let same : c ≡ code = cc in
        let blank : y.blank ≡ false = k.0.blank ∙ ap is_blank_state st in
        let here = points size x y k.0.some (k.0.live (ap is_blank_state st)) in
        record {
          x = x;
          y = y;
          rest = ys;
          first = rw blank refl;
          tells = told_of size xs ys;
          told = ap (λ s. told_by size x y s (told_of size xs ys)) (st ∙ ap Served same);
          found = rw here refl;
          low = omega arith;
        }
    by_state Blank st f e rest =
        let r = rest f e in
        let behind : y.place + length y.lengths ≤ pointer size r.x r.y = omega (arith, r.low, row.0) in
        let past = covers_past (pointer size r.x r.y) y behind in
        let blank : y.blank ≡ true = k.0.blank ∙ ap is_blank_state st in
        record {
          x = r.x;
          y = r.y;
          rest = r.rest;
          first = rw blank r.first;
          tells = r.tells;
          told = ap (λ s. told_by size x y s (told_of size xs ys)) st ∙ r.told;
          found = rw past r.found;
          low = omega (arith, behind);
        }

-- a transfer at a place, the first in progress of its line
pub record IsFirstAt (p : ℕ) (ys : List KeptTransfer) : Type 0 where
  pub y : KeptTransfer
  pub rest : List KeptTransfer
  pub found : find_at p ys ≡ Some y
  pub first : past_kept_blanks ys ≡ y ∷ rest

-- the transfer of an end that is told first is the first in progress
end_leads : (size : ℕ) (e : Endpoint) (os : List Errand) (ns : List Event) (b : KeptEndpoint) (sent : List SentErrand) (t : Telling) (told : List Telling) (n code : ℕ) → IsCoherent e os (Finished n code ∷ ns) → ShowsEnd size e os (Finished n code ∷ ns) b sent (t ∷ told)
    → (p : ℕ) × (r : ℕ) × (t ≡ Transfer p r code) × IsFirstAt p b.line
end_leads size e os ns b sent t told n code c s =
    let fe = first_end e os n code ns s.tail c s.news in
    let l = leads size e.line b.line b.end n code fe.es s.kept s.row c.in_order fe.first in
    let behind : List Telling = tail_told size e.line b.line b.errand s.tail in
    let split = heads_same t (telling_of size l.x l.y code) told (l.tells ++ behind) (s.told_is ∙ ap (λ k. k ++ behind) l.told) in
    (_, _, split.0, record { y = l.y; rest = l.rest; found = l.found; first = l.first })

-- of the first event, a transfer's end: its transfer is the first in progress of its line
pub leads_line : (setup : Setup) (w : World) (c : Core) (d e place residual code : ℕ) (rest : List RingEvent) → IsFine setup → Shows setup w c → c.events ≡ Transfers d e place residual code ∷ rest → (code == 26) ≡ false → IsFirstAt place (c.endpoints d e).line
leads_line setup w c d e place residual code rest fine s is ends = by_news s.news refl
  where
    by_first : (x : At Report) (xs : List (At Report)) → s.news ≡ x ∷ xs → ring_event x ≡ Transfers d e place residual code → IsFirstAt place (c.endpoints d e).line
    by_first x xs there same = by_event x.what.event refl
      where
        b : KeptEndpoint
        b = c.endpoints x.dev x.ep

        v : Endpoint
        v = w.endpoints x.dev x.ep

        size : ℕ
        size = packet_size_of setup x.dev x.ep

        os : List Errand
        os = errands (at x.dev x.ep s.orders)

        ns : List Event
        ns = events (at x.dev x.ep xs)

        holds : holder setup w.claims x.dev x.ep ≡ Some x.name
        holds = (subst (AllHeld setup w.claims) there s.news_held).0

        first_is : at x.dev x.ep s.news ≡ x.what ∷ at x.dev x.ep xs
        first_is = ap (at x.dev x.ep) there ∙ first_here x.dev x.ep x xs (ap₂ (λ p q. p && q) (same_name x.dev) (same_name x.ep))

        k : IsKnown setup w x.name x.dev x.ep os (x.what.event ∷ ns)
        k = subst (λ l. IsKnown setup w x.name x.dev x.ep os (events l)) first_is (known setup w c s fine x.name x.dev x.ep holds)

        coherent : (a : Event) → x.what.event ≡ a → IsCoherent v os (a ∷ ns)
        coherent a it = subst (λ z. IsCoherent v os (z ∷ ns)) it k.fit.coherent

        shown : (a : Event) → x.what.event ≡ a → ShowsEnd size v os (a ∷ ns) b (at x.dev x.ep s.orders) (x.what.telling ∷ tellings (at x.dev x.ep xs))
        shown a it = subst (λ z. ShowsEnd size v os (z ∷ ns) b (at x.dev x.ep s.orders) (x.what.telling ∷ tellings (at x.dev x.ep xs))) it
            (subst (λ l. ShowsEnd size v os (events l) b (at x.dev x.ep s.orders) (tellings l)) first_is (s.endpoints x.name x.dev x.ep holds))

        by_event : (a : Event) → x.what.event ≡ a → IsFirstAt place (c.endpoints d e).line
        by_event (Finished n cd) it =
            let f = end_leads size v os ns b (at x.dev x.ep s.orders) x.what.telling (tellings (at x.dev x.ep xs)) n cd (coherent (Finished n cd) it) (shown (Finished n cd) it) in
            let all : Transfers x.dev x.ep f.0 f.1 cd ≡ Transfers d e place residual code = ap (event_at x.dev x.ep) (sym f.2) ∙ same in
            let dev : x.dev ≡ d = cc in
            let ep : x.ep ≡ e = cc in
            let at_place : f.0 ≡ place = cc in
            subst₂ (λ p (l : List KeptTransfer). IsFirstAt p l) at_place (ap₂ (λ m n. (c.endpoints m n).line) dev ep) f.3
        by_event (Paused n) it =
            let f : PausedShows size x.ep (c.gone x.dev) v os ns b (at x.dev x.ep s.orders) x.what.telling (tellings (at x.dev x.ep xs)) n =
            paused_shows size x.ep (c.gone x.dev) v os ns b (at x.dev x.ep s.orders) x.what.telling (tellings (at x.dev x.ep xs)) n (coherent (Paused n) it) (shown (Paused n) it) in
            let all : Transfers x.dev x.ep f.p f.r 26 ≡ Transfers d e place residual code = ap (event_at x.dev x.ep) (sym f.event) ∙ same in
            let paused : 26 ≡ code = cc in
            let both : true ≡ false = ap (λ m. m == 26) paused ∙ ends in
            absurd cc
        by_event (Settled o ok) it =
            let f : SettledShows size x.ep (c.gone x.dev) c.posted v os ns b (at x.dev x.ep s.orders) x.what.telling (tellings (at x.dev x.ep xs)) o ok =
            settled_shows size x.ep (c.gone x.dev) c.posted v os ns b (at x.dev x.ep s.orders) x.what.telling (tellings (at x.dev x.ep xs)) o ok (coherent (Settled o ok) it) k.lively.orderly (shown (Settled o ok) it) in
            let other = ap (event_at x.dev x.ep) (sym f.event) ∙ same in
            absurd cc

    by_news : (l : List (At Report)) → s.news ≡ l → IsFirstAt place (c.endpoints d e).line
    by_news [] none = let empty : c.events ≡ [] = s.news_kept ∙ ap (map ring_event) none in absurd (cc (is, empty))
    by_news (y ∷ ys) there =
        let kept : ring_event y ∷ map ring_event ys ≡ Transfers d e place residual code ∷ rest = sym (s.news_kept ∙ ap (map ring_event) there) ∙ is in
        by_first y ys there (heads_same (ring_event y) (Transfers d e place residual code) (map ring_event ys) rest kept).0
