-- The endpoint whose errand a completion is of.
use Rattle.std.proofs.Common.{Bool, List, None, Option, Some, [], ap, ap₂, arith, false, length, refl, subst, subst₂, suc, sym, true, zero, ℕ, ◌+◌, ◌*◌, ◌%◌, ◌<◌, ◌≤◌, ◌∙◌, ◌∷◌, ◌≡◌}
use Rattle.std.specs.Prelude.{drop, is_some, nat_lt, slice_get, ◌==◌, ◌&&◌, if◌then◌else◌}
use Rattle.std.specs.List.{find}
use Rattle.std.specs.Option.{option_map}
use Rattle.std.proofs.lemmas.Bool.{and_parts, eq-eqb, eqb-true, lt-ltb}
use Rattle.std.proofs.lemmas.Option.{same_Some}
use Rattle.usb_model.specs.declared.errand.Errand.{Errand}
use Rattle.usb_model.specs.declared.setup.EndpointInfo.{EndpointInfo}
use Rattle.usb_model.specs.Setup.{Setup, endpoints_of, interface_of}
use Rattle.usb_model.specs.World.{World, holder}
use Rattle.usb_trb.specs.declared.kind.TrbKind.TheVariants.{CommandCompletion}
use Rattle.usb_rings.specs.Places.{address_of}
use Rattle.usb_model.specs.Kept.{SentErrand}
use Rattle.usb_model.specs.Events.{errand_of}
use Rattle.usb_tables.specs.declared.outstanding.Sent.{Sent}
use Rattle.usb_tables.specs.Outstanding.{sent_at}
use Rattle.refine_world.specs.Known.{KnowsCompletion, KnowsEvent}
use Rattle.refine_world.specs.Shows.{Completes, Core, RingEvent, Shows, Transfers}
use Rattle.refine_world.specs.Steps.{has_sent, is_sent}
use Rattle.refine_world.proofs.Strays.{never_stray}
use Rattle.refine_rings.specs.Holds.{event_trb}
use Rattle.refine_rings.proofs.Ids.{has_device}
use Rattle.refine_core.specs.Deliveries.{IsTaken, SentIs, Settles, sends, stands_at}
use Rattle.refine_core.specs.State.{Keeps, State, in_ring}
use Rattle.refine_core.specs.Works.{IsHolder}
use Rattle.refine_core.proofs.Held.{held_interface, holder_is}

module _ {P : Type 0} where
  -- a completion that was taken: of which device, and which index its order had
  pub record IsDone (setup : Setup) (s : State P) (c : Core) (pointer code slot d index : ℕ) : Type 0 where
    pub world : World
    pub shows : Shows setup world c
    pub rest : List RingEvent
    pub first : c.events ≡ Completes d index code ∷ rest
    pub keeps : Keeps setup s (record c { events = rest })
    pub slot_is : slot ≡ suc d
    pub small : d < 4
    pub pointer_is : pointer ≡ address_of 255 s.controller.commands.memory.base index
    pub knows : KnowsCompletion setup c d index code

  pub done : (setup : Setup) (s : State P) (c : Core) (pointer code slot : ℕ) → IsTaken setup s c (CommandCompletion pointer code slot) → (d : ℕ) × (index : ℕ) × IsDone setup s c pointer code slot d index
  done setup s c pointer code slot taken = by_event taken.event refl
    where
      knows : KnowsEvent setup c taken.event
      knows = never_stray setup taken.keeps.fine (omega (arith, taken.keeps.bounded)) taken.world c taken.shows taken.event taken.rest taken.first

      by_event : (v : RingEvent) → taken.event ≡ v → (d : ℕ) × (index : ℕ) × IsDone setup s c pointer code slot d index
      by_event (Transfers d e place r cd) is =
          let other = taken.told ∙ ap (event_trb s.controller.commands.memory.base) is in
          absurd cc
      by_event (Completes d index cd) is = (
        d,
        index,
        record {
          world = taken.world;
          shows = taken.shows;
          rest = taken.rest;
          first = taken.first ∙ ap (λ (v : RingEvent). v ∷ taken.rest) (is ∙ ap (Completes d index) (sym code_is));
          keeps = taken.keeps;
          slot_is = slot_is;
          small = omega (arith, has_device setup d known.ep interface.0 interface.1, taken.keeps.few);
          pointer_is = pointer_is;
          knows = subst (KnowsCompletion setup c d index) (sym code_is) known;
        },
      )
        where
          all : CommandCompletion pointer code slot ≡ CommandCompletion (address_of 255 s.controller.commands.memory.base index) cd (suc d)
          all = taken.told ∙ ap (event_trb s.controller.commands.memory.base) is

          pointer_is : pointer ≡ address_of 255 s.controller.commands.memory.base index
          pointer_is = cc

          code_is : code ≡ cd
          code_is = cc

          slot_is : slot ≡ suc d
          slot_is = cc

          known : KnowsCompletion setup c d index cd
          known = subst (KnowsEvent setup c) is knows

          interface : (i : ℕ) × (interface_of setup d known.ep ≡ Some i)
          interface = held_interface setup c.claims d known.ep known.name known.holds

  -- of a known event
  pub done_at : (setup : Setup) (s : State P) (c : Core) (pointer code slot d index : ℕ) (rest : List RingEvent) → IsTaken setup s c (CommandCompletion pointer code slot) → c.events ≡ Completes d index code ∷ rest → IsDone setup s c pointer code slot d index
  done_at setup s c pointer code slot d index rest taken first =
      let is = done setup s c pointer code slot taken in
      let same : Completes is.0 is.1 code ∷ is.2.rest ≡ Completes d index code ∷ rest = sym is.2.first ∙ first in
      let device : is.0 ≡ d = cc in
      let order : is.1 ≡ index = cc in
      subst₂ (λ m n. IsDone setup s c pointer code slot m n) device order is.2

  -- nobody's endpoint sends nothing
  pub unheld_sends : (setup : Setup) (s : State P) (c : Core) (pointer code slot d index e : ℕ) → (is : IsDone setup s c pointer code slot d index) → IsHolder s d e None → SentIs setup c d index e None
  unheld_sends setup s c pointer code slot d index e is nobody =
      ap (λ (o : Option ℕ). is_some o && is_sent index (c.endpoints d e).errand) (holder_is setup s (record c { events = is.rest }) d e None is.keeps nobody)

  -- the errand of an endpoint that is held, as the core keeps it
  its_errand : (setup : Setup) (s : State P) (c : Core) (pointer code slot d index e name : ℕ) → (is : IsDone setup s c pointer code slot d index) → IsHolder s d e (Some name) → (holder setup c.claims d e ≡ Some name) × (sent_at s.outstanding d e ≡ option_map in_ring (c.endpoints d e).errand)
  its_errand setup s c pointer code slot d index e name is held =
      let holds : holder setup c.claims d e ≡ Some name = holder_is setup s (record c { events = is.rest }) d e (Some name) is.keeps held in
      let interface = held_interface setup c.claims d e name holds in
      (holds, (is.keeps.ends d e interface.0 interface.1).errand)

  -- one without an errand sends nothing
  pub none_sends : (setup : Setup) (s : State P) (c : Core) (pointer code slot d index e name : ℕ) → (is : IsDone setup s c pointer code slot d index) → IsHolder s d e (Some name) → None ≡ sent_at s.outstanding d e → SentIs setup c d index e None
  none_sends setup s c pointer code slot d index e name is held there =
      let its = its_errand setup s c pointer code slot d index e name is held in
      by_errand its.0 (c.endpoints d e).errand refl (there ∙ its.1)
    where
      by_errand : holder setup c.claims d e ≡ Some name → (o : Option SentErrand) → (c.endpoints d e).errand ≡ o → None ≡ option_map in_ring (c.endpoints d e).errand → sends setup c d index e ≡ false
      by_errand holds None none same = ap₂ (λ (h : Option ℕ) (o : Option SentErrand). is_some h && is_sent index o) holds none
      by_errand holds (Some y) some same =
          let other : None ≡ Some (in_ring y) = same ∙ ap (option_map in_ring) some in
          absurd cc

  -- one whose order stands where the completion says sends it, and no other
  pub stands_sends : (setup : Setup) (s : State P) (c : Core) (pointer code slot d index e name : ℕ) (x : Sent) (t : Bool) → (is : IsDone setup s c pointer code slot d index) → IsHolder s d e (Some name) → Some x ≡ sent_at s.outstanding d e
      → stands_at s.controller x.index pointer ≡ t → SentIs setup c d index e (if t then Some (name, x.errand) else None)
  stands_sends setup s c pointer code slot d index e name x t is held there stands =
      let its = its_errand setup s c pointer code slot d index e name is held in
      by_errand its.0 (c.endpoints d e).errand refl (there ∙ its.1)
    where
      Result : Type 0
      Result = SentIs setup c d index e (if t then Some (name, x.errand) else None)

      by_errand : holder setup c.claims d e ≡ Some name → (o : Option SentErrand) → (c.endpoints d e).errand ≡ o → Some x ≡ option_map in_ring (c.endpoints d e).errand → Result
      by_errand holds None none same =
          let other : Some x ≡ None = same ∙ ap (option_map in_ring) none in
          absurd cc
      by_errand holds (Some y) some same = by_test t stands
        where
          its : x ≡ in_ring y
          its = same_Some x (in_ring y) (same ∙ ap (option_map in_ring) some)

          index_is : x.index ≡ y.index % 255
          index_is = ap (λ (v : Sent). v.index) its

          said : sends setup c d index e ≡ (y.index == index)
          said = ap₂ (λ (h : Option ℕ) (o : Option SentErrand). is_some h && is_sent index o) holds some

          by_test : (b : Bool) → stands_at s.controller x.index pointer ≡ b → SentIs setup c d index e (if b then Some (name, x.errand) else None)
          by_test true here =
              let parts = and_parts (nat_lt x.index 255) (s.controller.commands.memory.base + 16 * x.index == pointer) here in
              let at : s.controller.commands.memory.base + 16 * x.index ≡ pointer = eqb-true (s.controller.commands.memory.base + 16 * x.index) pointer parts.1 in
              let same_rest : y.index % 255 ≡ index % 255 = omega (arith, at, is.pointer_is, index_is) in
              let same_index : y.index ≡ index = is.knows.apart e name y holds some same_rest in (
                said ∙ eq-eqb y.index index same_index,
                holds,
                ap errand_of some ∙ ap (λ (v : Sent). Some v.errand) (sym its),
              )
          by_test false elsewhere = said ∙ by_same (y.index == index) refl
            where
              by_same : (b : Bool) → (y.index == index) ≡ b → (y.index == index) ≡ false
              by_same false other = other
              by_same true equal =
                  let index_same : y.index ≡ index = eqb-true y.index index equal in
                  let below : x.index < 255 = omega (arith, index_is) in
                  let at : s.controller.commands.memory.base + 16 * x.index ≡ pointer = omega (arith, is.pointer_is, index_is, index_same) in
                  let both : true ≡ false = sym (ap₂ (λ a b. a && b) (lt-ltb x.index 255 below) (eq-eqb (s.controller.commands.memory.base + 16 * x.index) pointer at)) ∙ elsewhere in
                  absurd cc

  -- the sender is settled
  pub settles_of : (setup : Setup) (s : State P) (c : Core) (pointer code slot d index name : ℕ) (errand : Errand) (x : EndpointInfo) → (is : IsDone setup s c pointer code slot d index) → find (has_sent setup c d index) (endpoints_of setup d) ≡ Some x
      → SentIs setup c d index x.address (Some (name, errand)) → Settles setup s c name d x.address errand code
  settles_of setup s c pointer code slot d index name errand x is found sent = record {
    world = is.world;
    shows = is.shows;
    index = index;
    rest = is.rest;
    first = is.first;
    keeps = is.keeps;
    sends = ap (option_map (λ (v : EndpointInfo). v.address)) found;
    holds = sent.1;
    order = sent.2;
  }

  -- and there is one
  pub sender_there : (setup : Setup) (s : State P) (c : Core) (pointer code slot d index : ℕ) → (is : IsDone setup s c pointer code slot d index) → find (has_sent setup c d index) (endpoints_of setup d) ≡ None → ⊥
  sender_there setup s c pointer code slot d index is none =
      let both : None ≡ Some is.knows.ep = sym (ap (option_map (λ (v : EndpointInfo). v.address)) none) ∙ is.knows.sends in
      absurd cc

-- a search that passed the first ones
abbrev pub Looked : Setup → Core → (d index : ℕ) → List EndpointInfo → ℕ → Type 0
Looked setup c d index xs k = find (has_sent setup c d index) xs ≡ find (has_sent setup c d index) (drop k xs)

next_drop : {A : Type 0} (xs : List A) (k : ℕ) (x : A) → slice_get xs k ≡ Some x → drop k xs ≡ x ∷ drop (suc k) xs
next_drop [] k x there = absurd cc
next_drop (y ∷ ys) zero x there = ap (λ z. z ∷ ys) (same_Some y x there)
next_drop (y ∷ ys) (suc k) x there = next_drop ys k x there

drop_past : {A : Type 0} (xs : List A) (k : ℕ) → length xs ≤ k → drop k xs ≡ []
drop_past [] zero le = refl
drop_past [] (suc k) le = refl
drop_past (x ∷ xs) zero le = absurd (omega (arith, le))
drop_past (x ∷ xs) (suc k) le = drop_past xs k (omega (arith, le))

find_first : {A : Type 0} (p : A → Bool) (x : A) (xs : List A) → find p (x ∷ xs) ≡ (if p x then Some x else find p xs)
find_first p x xs = by_test (p x) refl
  where
    by_test : (b : Bool) → p x ≡ b → find p (x ∷ xs) ≡ (if b then Some x else find p xs)
    by_test true is = rw is refl
    by_test false is = rw is refl

module _ (setup : Setup) (c : Core) (d index : ℕ) (xs : List EndpointInfo) where
  -- one more that sends nothing
  pub looked_on : (k : ℕ) (x : EndpointInfo) → slice_get xs k ≡ Some x → sends setup c d index x.address ≡ false → Looked setup c d index xs k → Looked setup c d index xs (k + 1)
  looked_on k x there quiet before =
      let more : suc k ≡ k + 1 = omega arith in
      before ∙ ap (find (has_sent setup c d index)) (next_drop xs k x there) ∙ find_first (has_sent setup c d index) x (drop (suc k) xs)
      ∙ ap (λ b. if b then Some x else find (has_sent setup c d index) (drop (suc k) xs)) quiet ∙ ap (λ m. find (has_sent setup c d index) (drop m xs)) more

  -- the one that sends
  pub looked_here : (k : ℕ) (x : EndpointInfo) → slice_get xs k ≡ Some x → sends setup c d index x.address ≡ true → Looked setup c d index xs k → find (has_sent setup c d index) xs ≡ Some x
  looked_here k x there loud before =
      before ∙ ap (find (has_sent setup c d index)) (next_drop xs k x there) ∙ find_first (has_sent setup c d index) x (drop (suc k) xs)
      ∙ ap (λ b. if b then Some x else find (has_sent setup c d index) (drop (suc k) xs)) loud

  -- none
  pub looked_all : (k : ℕ) → length xs ≤ k → Looked setup c d index xs k → find (has_sent setup c d index) xs ≡ None
  looked_all k all before = before ∙ ap (find (has_sent setup c d index)) (drop_past xs k all)
