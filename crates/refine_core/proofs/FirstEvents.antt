-- Of which endpoint the first event is, as the world has it.
use Rattle.std.proofs.Common.{List, None, Option, Some, [], ap, ap₂, map, refl, subst, sym, ℕ, ◌&&◌, ◌∙◌, ◌∷◌, ◌≡◌}
use Rattle.std.specs.Prelude.{slice_get}
use Rattle.std.specs.Option.{option_map}
use Rattle.usb_model.specs.declared.endpoint.Endpoint.{Endpoint}
use Rattle.usb_model.specs.declared.errand.Errand.{Errand}
use Rattle.usb_model.specs.declared.news.Event.{Event}
use Rattle.usb_model.specs.declared.news.Event.TheVariants.{Finished, Paused, Settled}
use Rattle.usb_model.specs.declared.news.News.{News}
use Rattle.usb_model.specs.declared.shared.Tagged.{Tagged}
use Rattle.usb_model.specs.Coherence.{IsCoherent}
use Rattle.usb_model.specs.Setup.{Setup, packet_size_of}
use Rattle.usb_model.specs.World.{World, holder}
use Rattle.usb_model.specs.Kept.{Completion, KeptEndpoint, Telling, Transfer, code_of, index_of}
use Rattle.proof_model.proofs.Lists.Parts.{heads_same}
use Rattle.proof_model.proofs.Lists.Pieces.{same_name}
use Rattle.refine_world.specs.Lively.{IsFine}
use Rattle.refine_world.specs.ShownEndpoint.{ShowsEnd}
use Rattle.refine_world.specs.Shows.{AllHeld, At, Completes, Core, Report, RingEvent, Shows, Transfers, at, errands, event_at, events, news_of, ring_event, tellings}
use Rattle.refine_world.specs.Steps.{sender}
use Rattle.refine_world.proofs.Delivers.{sent_there}
use Rattle.refine_world.proofs.Finished.{finished_shows}
use Rattle.refine_world.proofs.Links.{IsKnown, known}
use Rattle.refine_world.proofs.Pauses.{paused_shows}
use Rattle.refine_world.proofs.Senders.{sender_is}
use Rattle.refine_world.proofs.Settled.{settled_shows}
use Rattle.refine_world.proofs.Waiters.{first_here}
use Rattle.usb_trb.specs.declared.kind.TrbKind.{TrbKind}
use Rattle.refine_rings.specs.Holds.{event_trb}
use Rattle.refine_core.specs.State.{Keeps, State}

-- the endpoint of the first event that waits
abbrev pub first_ep : World → Option ℕ
first_ep w = option_map (λ (x : Tagged News). x.piece.ep) (slice_get w.news 0)

-- no transfer's event is a completion
not_both : (t : Telling) (p r code index done : ℕ) (A : Type 0) → t ≡ Transfer p r code → t ≡ Completion index done → A
not_both t p r code index done A is other =
    let both : Transfer p r code ≡ Completion index done = sym is ∙ other in
    absurd cc

module _ (setup : Setup) (w : World) (c : Core) (s : Shows setup w c) where
  -- the first event, as the world has it
  pub record IsFirst (v : RingEvent) : Type 0 where
    pub x : At Report
    pub xs : List (At Report)
    pub news : s.news ≡ x ∷ xs
    pub told : ring_event x ≡ v
    pub ep : first_ep w ≡ Some x.ep

  pub is_first : (v : RingEvent) (rest : List RingEvent) → c.events ≡ v ∷ rest → IsFirst v
  is_first v rest first = by_news s.news refl
    where
      by_news : (l : List (At Report)) → s.news ≡ l → IsFirst v
      by_news [] none = let empty : c.events ≡ [] = s.news_kept ∙ ap (map ring_event) none in absurd (cc (first, empty))
      by_news (x ∷ xs) there = record {
        x = x;
        xs = xs;
        news = there;
        told = (heads_same (ring_event x) v (map ring_event xs) rest (sym (s.news_kept ∙ ap (map ring_event) there) ∙ first)).0;
        ep = ap (λ (l : List (Tagged News)). option_map (λ (y : Tagged News). y.piece.ep) (slice_get l 0)) (s.news_shown ∙ ap (map news_of) there);
      }

  -- a completion that comes first is of the errand of its endpoint
  sends : IsFine setup → (x : At Report) (xs : List (At Report)) (index code : ℕ) → s.news ≡ x ∷ xs → x.what.telling ≡ Completion index code → sender setup c x.dev index ≡ Some x.ep
  sends fine x xs index code is tells = by_event x.what.event refl
    where
      dev : ℕ
      dev = x.dev

      ep : ℕ
      ep = x.ep

      b : KeptEndpoint
      b = c.endpoints dev ep

      e : Endpoint
      e = w.endpoints dev ep

      size : ℕ
      size = packet_size_of setup dev ep

      os : List Errand
      os = errands (at dev ep s.orders)

      ns : List Event
      ns = events (at dev ep xs)

      holds : holder setup w.claims dev ep ≡ Some x.name
      holds = (subst (AllHeld setup w.claims) is s.news_held).0

      first_is : at dev ep s.news ≡ x.what ∷ at dev ep xs
      first_is = ap (at dev ep) is ∙ first_here dev ep x xs (ap₂ (λ p q. p && q) (same_name dev) (same_name ep))

      k : IsKnown setup w x.name dev ep os (x.what.event ∷ ns)
      k = subst (λ l. IsKnown setup w x.name dev ep os (events l)) first_is (known setup w c s fine x.name dev ep holds)

      coherent : (v : Event) → x.what.event ≡ v → IsCoherent e os (v ∷ ns)
      coherent v same = subst (λ z. IsCoherent e os (z ∷ ns)) same k.fit.coherent

      shown : (v : Event) → x.what.event ≡ v → ShowsEnd size e os (v ∷ ns) b (at dev ep s.orders) (x.what.telling ∷ tellings (at dev ep xs))
      shown v same = subst (λ z. ShowsEnd size e os (z ∷ ns) b (at dev ep s.orders) (x.what.telling ∷ tellings (at dev ep xs))) same
          (subst (λ l. ShowsEnd size e os (events l) b (at dev ep s.orders) (tellings l)) first_is (s.endpoints x.name dev ep holds))

      by_event : (v : Event) → x.what.event ≡ v → sender setup c dev index ≡ Some ep
      by_event (Finished n done) v =
          let f = finished_shows size ep (c.gone dev) c.posted e os ns b (at dev ep s.orders) x.what.telling (tellings (at dev ep xs)) n done (coherent (Finished n done) v) (shown (Finished n done) v) in
          not_both x.what.telling f.p f.r done index code (sender setup c dev index ≡ Some ep) f.event tells
      by_event (Paused n) v =
          let f = paused_shows size ep (c.gone dev) e os ns b (at dev ep s.orders) x.what.telling (tellings (at dev ep xs)) n (coherent (Paused n) v) (shown (Paused n) v) in
          not_both x.what.telling f.p f.r 26 index code (sender setup c dev index ≡ Some ep) f.event tells
      by_event (Settled o ok) v =
          let f = settled_shows size ep (c.gone dev) c.posted e os ns b (at dev ep s.orders) x.what.telling (tellings (at dev ep xs)) o ok (coherent (Settled o ok) v) k.lively.orderly (shown (Settled o ok) v) in
          let y = sent_there b.errand o ((shown (Settled o ok) v).errand ∙ f.errand) in
          let both : Completion (index_of b.errand) (code_of ok) ≡ Completion index code = sym f.event ∙ tells in
          let index_is : index_of b.errand ≡ index = cc in
          sender_is setup w c s fine x xs index code y.0 is tells holds y.1 (sym (ap index_of y.1) ∙ index_is)

  -- of a transfer
  pub transfer_first : (d e place residual code : ℕ) (rest : List RingEvent) → c.events ≡ Transfers d e place residual code ∷ rest → Some e ≡ first_ep w
  transfer_first d e place residual code rest first =
      let f = is_first (Transfers d e place residual code) rest first in
      by_telling f.x f.x.what.telling f.told ∙ sym f.ep
    where
      by_telling : (x : At Report) (t : Telling) → event_at x.dev x.ep t ≡ Transfers d e place residual code → Some e ≡ Some x.ep
      by_telling x (Transfer p r k) is = let same : x.ep ≡ e = cc in ap (λ n. Some n) (sym same)
      by_telling x (Completion i k) is = absurd cc

  -- of an order's errand
  pub completion_first : IsFine setup → (d index code e : ℕ) (rest : List RingEvent) → c.events ≡ Completes d index code ∷ rest → sender setup c d index ≡ Some e → Some e ≡ first_ep w
  completion_first fine d index code e rest first sent =
      let f = is_first (Completes d index code) rest first in
      by_telling f f.x.what.telling refl f.told ∙ sym f.ep
    where
      by_telling : (f : IsFirst (Completes d index code)) (t : Telling) → f.x.what.telling ≡ t → event_at f.x.dev f.x.ep t ≡ Completes d index code → Some e ≡ Some f.x.ep
      by_telling f (Transfer p r k) tells is = absurd cc
      by_telling f (Completion i k) tells is =
          let dev_is : f.x.dev ≡ d = cc in
          let index_is : i ≡ index = cc in
          sym sent ∙ ap₂ (λ m n. sender setup c m n) (sym dev_is) (sym index_is) ∙ sends fine f.x f.xs i k f.news tells

-- where no event waits the world has none
pub no_first : {P : Type 0} (setup : Setup) (s : State P) (w : World) (c : Core) → Keeps setup s c → Shows setup w c → None ≡ slice_get s.controller.events.waits 0 → None ≡ first_ep w
no_first setup s w c keeps shows none = by_news shows.news refl
  where
    by_news : (l : List (At Report)) → shows.news ≡ l → None ≡ first_ep w
    by_news [] empty = sym (ap (λ (l : List (Tagged News)). option_map (λ (y : Tagged News). y.piece.ep) (slice_get l 0)) (shows.news_shown ∙ ap (map news_of) empty))
    by_news (x ∷ xs) there =
        let waits : s.controller.events.waits ≡ event_trb s.controller.commands.memory.base (ring_event x) ∷ map (event_trb s.controller.commands.memory.base) (map ring_event xs)
        = keeps.held.told ∙ ap (map (event_trb s.controller.commands.memory.base)) (shows.news_kept ∙ ap (map ring_event) there) in
        let both : None ≡ Some (event_trb s.controller.commands.memory.base (ring_event x)) = none ∙ ap (λ (l : List TrbKind). slice_get l 0) waits in
        absurd cc
