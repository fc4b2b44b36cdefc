-- Where an order, an event or a result waits a step does something.
use Rattle.std.proofs.Common.{◌≡◌, ℕ, suc, ◌-◌, ◌<◌, Bool, true, false, refl, ap, ap₂, sym, ◌∙◌, arith, List, [], ◌∷◌, length, map, Option, Some, None}
use Rattle.std.specs.Prelude.{◌==◌, nat_lt, is_some, option_map, slice_get, if◌then◌else◌}
use Rattle.std.proofs.lemmas.Bool.{le-ltb, lt-ltb}
use Rattle.std.proofs.lemmas.List.{length-map}
use Rattle.usb_model.specs.declared.entry.Entry.{Entry}
use Rattle.usb_model.specs.declared.errand.Errand.{Errand}
use Rattle.usb_model.specs.declared.errand.Errand.TheVariants as errand
use Rattle.usb_model.specs.declared.reply.Reply.{Reply}
use Rattle.usb_model.specs.declared.result.TransferResult.{TransferResult}
use Rattle.usb_model.specs.declared.shared.Tagged.{Tagged}
use Rattle.usb_model.specs.declared.step.Step.TheVariants.{Command, Deliver, Take}
use Rattle.usb_model.specs.Setup.{Setup}
use Rattle.usb_model.specs.World.{World}
use Rattle.usb_model.specs.Kept.{KeptEndpoint, KeptTransfer, SentErrand}
use Rattle.usb_model.specs.Endpoint.Deliver.{needs_reset}
use Rattle.usb_model.specs.Events.{Reading, errand_of, finish, past_kept_blanks}
use Rattle.usb_model.specs.Settlements.{leads_kept, pauses, kept_blanked, resume_kept, settle}
use Rattle.usb_tables.specs.declared.transfer.Transfer.{Transfer as InFlight}
use Rattle.usb_tables.specs.TransfersInFlight.{EndedOf}
use Rattle.refine_world.specs.Known.{KnowsEvent}
use Rattle.refine_world.specs.Shows.{Completes, Core, RingEvent, RingOrder, Shows, Transfers}
use Rattle.refine_world.specs.Steps.{command_core, command_first, complete_at, completion_work, deliver_core, deliver_first, delivers, take_core, take_first, transfer_work}
use Rattle.refine_world.proofs.Delivers.{deliver_steps}
use Rattle.refine_world.proofs.FirstOrders.{orders_fit}
use Rattle.refine_world.proofs.WholeSteps.{command_steps}
use Rattle.refine_world.proofs.Strays.{never_stray}
use Rattle.refine_world.proofs.Takes.{take_steps}
use Rattle.refine_rings.specs.Holds.{event_trb}
use Rattle.refine_core.specs.State.{Keeps, State, result_of}
use Rattle.refine_core.proofs.Posts.{as_many_orders}
use Rattle.refine_core.proofs.Orders.{runs_order}
use Rattle.usb_core.specs.Pending.{does_something, tells_work}

-- a ring is less than empty where something waits in it
filled : (all room n : ℕ) → 0 < all → room ≡ all - suc n → nat_lt room all ≡ true
filled all room n some is = lt-ltb room all (omega (arith, some, is))

empty : (all room n : ℕ) → room ≡ all - n → n ≡ 0 → nat_lt room all ≡ false
empty all room n is none = le-ltb room all (omega (arith, is, none))

-- there is something whatever is told of it
pub some_map : {A B : Type 0} (f : A → B) (o : Option A) → is_some o ≡ is_some (option_map f o)
some_map f None = refl
some_map f (Some x) = refl

-- the end of a transfer does something
finishes : (gone : Bool) (next : ℕ) (b : KeptEndpoint) (p code : ℕ) (found : Reading) → tells_work false (finish gone next b p code found).reply ≡ true
unfolding finish
finishes gone next b p code found = by_test (needs_reset code (errand_of b.errand)) refl
  where
    by_test : (t : Bool) → needs_reset code (errand_of b.errand) ≡ t → tells_work false (finish gone next b p code found).reply ≡ true
    by_test true is = cc
    by_test false is = cc

-- so does an event of it
handles : (stands : Bool) (gone : Bool) (next : ℕ) (b : KeptEndpoint) (p code : ℕ) (found : Reading) → tells_work false (if stands then pauses b p found else finish gone next b p code found).reply ≡ true
handles true gone next b p code found = refl
handles false gone next b p code found = finishes gone next b p code found

-- and the end of an errand
resumes : (next : ℕ) (b : KeptEndpoint) (r : Reply) (line : List KeptTransfer) → tells_work false (resume_kept next b r line).reply ≡ tells_work false r
unfolding resume_kept
resumes next b r line = by_test (leads_kept (map kept_blanked line)) refl
  where
    by_test : (t : Bool) → leads_kept (map kept_blanked line) ≡ t → tells_work false (resume_kept next b r line).reply ≡ tells_work false r
    by_test true is = cc
    by_test false is = cc

settles : (ep next : ℕ) (b : KeptEndpoint) (o : Errand) (ok : Bool) → tells_work false (settle ep next b o ok).reply ≡ true
unfolding settle
settles ep next b errand.Stop false = refl
settles ep next b errand.Stop true = resumes next b _ b.line
settles ep next b errand.Reset ok = refl
settles ep next b errand.Move ok = resumes next b _ (past_kept_blanks b.line)

module _ {P : Type 0} (setup : Setup) (w : World) (s : State P) (c : Core) (keeps : Keeps setup s c) (shows : Shows setup w c) (room : ℕ) where
  -- an order waits where one is posted
  pub commands : room ≡ 254 - length s.controller.commands.waits → nat_lt room 254 ≡ does_something setup w Command
  unfolding command_core command_first
  commands is = by_orders c.orders refl ∙ ap (λ (x : Entry). tells_work false x.reply) (command_steps setup w c keeps.fine shows).0
    where
      many : length s.controller.commands.waits ≡ length c.orders
      many = as_many_orders c.endpoints c.orders s.controller.commands.waits keeps.held.ordered

      by_orders : (l : List RingOrder) → c.orders ≡ l → nat_lt room 254 ≡ tells_work false (command_core setup c).entry.reply
      by_orders [] first = empty 254 room (length s.controller.commands.waits) is (many ∙ ap length first) ∙ sym (ap (λ (l : List RingOrder). tells_work false (command_first setup c l).entry.reply) first)
      by_orders (o ∷ os) first =
          filled 254 room (length os) (omega arith) (is ∙ ap (λ n. 254 - n) (many ∙ ap length first))
          ∙ sym (ap (λ (x : Entry). tells_work false x.reply) (runs_order setup w s c o os keeps shows first (orders_fit setup keeps.fine w c shows o os first)).entry)

  -- an event waits where one is told
  pub delivers_one : room ≡ 4095 - length s.controller.events.waits → nat_lt room 4095 ≡ does_something setup w Deliver
  unfolding deliver_core deliver_first complete_at completion_work transfer_work delivers
  delivers_one is = by_events c.events refl ∙ ap (λ (x : Entry). tells_work false x.reply) (deliver_steps setup w c keeps.fine shows).0
    where
      many : length s.controller.events.waits ≡ length c.events
      many = ap length keeps.held.told ∙ length-map c.events (event_trb s.controller.commands.memory.base)

      by_events : (l : List RingEvent) → c.events ≡ l → nat_lt room 4095 ≡ tells_work false (deliver_core setup c).entry.reply
      by_events [] first = empty 4095 room (length s.controller.events.waits) is (many ∙ ap length first) ∙ sym (ap (λ (l : List RingEvent). tells_work false (deliver_first setup c l).entry.reply) first)
      by_events (x ∷ xs) first = filled 4095 room (length xs) (omega arith) (is ∙ ap (λ n. 4095 - n) (many ∙ ap length first))
          ∙ sym (ap (λ (l : List RingEvent). tells_work false (deliver_first setup c l).entry.reply) first ∙ by_event x (never_stray setup keeps.fine (omega (arith, keeps.bounded)) w c shows x xs first))
        where
          by_event : (x : RingEvent) → KnowsEvent setup c x → tells_work false (deliver_first setup c (x ∷ xs)).entry.reply ≡ true
          by_event (Transfers d e place residual code) knows =
              ap₂ (λ (r : Option Reading) (o : Option ℕ). tells_work false (delivers c d e (transfer_work (c.gone d) c.posted (c.endpoints d e) place code r) o).entry.reply) knows.reads knows.holds
              ∙ handles (code == 26) (c.gone d) c.posted (c.endpoints d e) place code knows.found
          by_event (Completes d index code) knows =
              ap (λ (o : Option ℕ). tells_work false (complete_at setup c d code o).entry.reply) knows.sends
              ∙ ap₂ (λ (r : Option SentErrand) (o : Option ℕ). tells_work false (delivers c d knows.ep (completion_work knows.ep c.posted (c.endpoints d knows.ep) code r) o).entry.reply) knows.order knows.holds
              ∙ settles knows.ep c.posted (c.endpoints d knows.ep) knows.sent.errand (code == 1)

  -- a result waits where a transfer ended
  pub takes : is_some (slice_get s.flights.ended 0) ≡ does_something setup w Take
  unfolding take_core take_first
  takes = by_ended s.flights.ended refl ∙ ap (λ (x : Entry). tells_work false x.reply) (take_steps setup w c keeps.fine shows).0
    where
      by_ended : (l : List (EndedOf (InFlight P))) → s.flights.ended ≡ l → is_some (slice_get s.flights.ended 0) ≡ tells_work false (take_core setup c).entry.reply
      by_ended [] is = ap (λ (l : List (EndedOf (InFlight P))). is_some (slice_get l 0)) is ∙ sym (ap (λ (l : List (Tagged TransferResult)). tells_work false (take_first setup c l).entry.reply) (keeps.ended ∙ ap (map result_of) is))
      by_ended (x ∷ xs) is = ap (λ (l : List (EndedOf (InFlight P))). is_some (slice_get l 0)) is ∙ sym (ap (λ (l : List (Tagged TransferResult)). tells_work false (take_first setup c l).entry.reply) (keeps.ended ∙ ap (map result_of) is))
