-- The oldest order is carried out.
use Rattle.std.proofs.Common.{None, ◌≤◌, ◌≡◌, ℕ, suc, ◌+◌, ◌<◌, Bool, true, false, refl, ap, sym, subst, ◌∙◌, arith, List, [], ◌∷◌, ◌++◌, append-nil, length, map, Option, Some}
use Rattle.std.specs.Prelude.{◌==◌}
use Rattle.std.specs.Option.{option_map, option_map_or}
use Rattle.std.proofs.lemmas.List.{length-map}
use Rattle.std.proofs.lemmas.Option.{same_Some}
use Rattle.usb_model.specs.declared.endpoint.EndpointState.{EndpointState}
use Rattle.usb_model.specs.declared.endpoint.EndpointState.TheVariants.{Halted, Running, Stopped}
use Rattle.usb_model.specs.declared.entry.Entry.{Entry}
use Rattle.usb_model.specs.declared.errand.Errand.{Errand}
use Rattle.usb_model.specs.declared.errand.Errand.TheVariants as errand
use Rattle.usb_model.specs.declared.reply.Reply.TheVariants.{Idle, Ran}
use Rattle.usb_model.specs.declared.step.Step.TheVariants.{Command}
use Rattle.usb_model.specs.Setup.{Setup, endpoint_id, interface_of}
use Rattle.usb_model.specs.World.{Claims, World, holder}
use Rattle.usb_model.specs.World.Shared.{past_first, pieces_of}
use Rattle.usb_trb.specs.declared.kind.TrbKind.{TrbKind}
use Rattle.usb_model.specs.Kept.{KeptEndpoint, KeptTransfer, SentErrand, code_of}
use Rattle.usb_model.specs.Commands.{Carried, carry}
use Rattle.usb_xhc.specs.Controller.{Controller, Run, run_of}
use Rattle.refine_world.specs.Known.{KnowsOrder}
use Rattle.refine_world.specs.Shows.{Core, RingOrder, Shows, event_at}
use Rattle.refine_world.specs.Steps.{Stepped, carry_work, command_core, command_first, command_held, works}
use Rattle.usb_tables.specs.Tables.{is_plain}
use Rattle.refine_world.proofs.Bounds.{few_everywhere}
use Rattle.refine_world.proofs.FirstOrders.{orders_fit}
use Rattle.refine_world.proofs.RunningEndpoints.{fresh_while_running}
use Rattle.refine_rings.specs.Holds.{event_trb, Holds, IsPosted, with_end}
use Rattle.refine_rings.proofs.Ends.{here}
use Rattle.refine_rings.proofs.Runs.{runs}
use Rattle.usb_tables.specs.TransfersInFlight.{line_at}
use Rattle.refine_core.specs.State.{AllItems, Keeps, KeepsEnd, State, in_ring}
use Rattle.refine_core.specs.Steps.{Is, IsRun, order_in}
use Rattle.refine_core.specs.Works.{IsAt, with_kept}
use Rattle.refine_core.proofs.Amid.{core_as, own_name}
use Rattle.refine_core.proofs.Buffers.{buffers_same}
use Rattle.refine_core.proofs.Changed.{keeps_with, name_still}
use Rattle.refine_core.proofs.Held.{held_interface}
use Rattle.refine_core.proofs.EndpointQueues.{with_other}
use Rattle.refine_core.proofs.Posts.{as_many_orders}
use Rattle.refine_core.proofs.Ringed.{rings_run}
use Rattle.refine_core.proofs.Transfers.{end_at}

-- what an order leaves of an endpoint's line and its errand
carry_line : (index : ℕ) (b : KeptEndpoint) (o : Errand) (s : EndpointState) → ((carry index b o s).endpoint.line ≡ b.line) × ((carry index b o s).endpoint.errand ≡ b.errand)
unfolding carry
carry_line index b errand.Stop Running = (refl, refl)
carry_line index b errand.Stop Stopped = (refl, refl)
carry_line index b errand.Stop Halted = (refl, refl)
carry_line index b errand.Reset Running = (refl, refl)
carry_line index b errand.Reset Stopped = (refl, refl)
carry_line index b errand.Reset Halted = (refl, refl)
carry_line index b errand.Move Running = (refl, refl)
carry_line index b errand.Move Stopped = (refl, refl)
carry_line index b errand.Move Halted = (refl, refl)

-- a posted order says its endpoint and errand
order_said : (b : KeptEndpoint) (d e : ℕ) (o : Errand) (k : TrbKind) → IsPosted b d e o k → order_in k ≡ Some (suc d, endpoint_id e, o)
order_said b d e errand.Stop k is = ap order_in is
order_said b d e errand.Reset k is = ap order_in is
order_said b d e errand.Move k is = ap order_in is

-- whether an order went well is told by its code
ok_by_code : (ok : Bool) → ok ≡ (code_of ok == 1)
ok_by_code true = refl
ok_by_code false = refl

-- what is told of an order that was run: which, and its code
abbrev pub told_of : Run → TrbKind × ℕ
told_of r = (r.order, r.code)

module _ {P : Type 0} where
  -- where no order waits the core has none
  pub none_waits : (setup : Setup) (s : State P) (c : Core) → Keeps setup s c → c.orders ≡ [] → s.controller.commands.waits ≡ []
  none_waits setup s c keeps none = by_waits s.controller.commands.waits (as_many_orders c.endpoints c.orders s.controller.commands.waits keeps.held.ordered ∙ ap length none)
    where
      by_waits : (ks : List TrbKind) → length ks ≡ 0 → ks ≡ []
      by_waits [] is = refl
      by_waits (k ∷ ks) is = absurd (omega (arith, is))

  -- the oldest order is the core's
  pub runs_order : (setup : Setup) (w : World) (s : State P) (c : Core) (o : RingOrder) (os : List RingOrder) → Keeps setup s c → Shows setup w c → c.orders ≡ o ∷ os → KnowsOrder setup c o → IsRun setup s c o
  unfolding command_core command_first command_held
  runs_order setup w s c o os keeps shows first knows = record {
    r = run.0;
    is = run.1;
    order = order_said b d e o.errand run.0.order run.2;
    at = h;
    holds = knows.holds;
    entry = ap (λ (t : Stepped). t.entry) stepped ∙ ap (λ (ok : Bool). entry_of ok) (ok_by_code a.ok ∙ ap (λ (n : ℕ). n == 1) (sym run.3));
    keeps = subst (λ (x : Core). Keeps setup new x) (sym (ap (λ (t : Stepped). t.core) stepped ∙ behind)) kept;
  }
    where
      d : ℕ
      d = o.dev

      e : ℕ
      e = o.ep

      h : ℕ
      h = knows.name

      b : KeptEndpoint
      b = c.endpoints d e

      a : Carried
      a = carry o.place b o.errand b.state

      entry_of : Bool → Entry
      entry_of ok = record { owner = Some h; reply = Ran e o.errand ok }

      stepped : command_core setup c ≡ works h d e Command (carry_work e o.errand a) c
      stepped = ap (λ (l : List RingOrder). command_first setup c l) first ∙ ap (λ (x : Option ℕ). command_held c o x) knows.holds

      interface : (i : ℕ) × (interface_of setup d e ≡ Some i)
      interface = held_interface setup c.claims d e h knows.holds

      at : IsAt setup s c h d e
      at = record { keeps = keeps; interface = interface.0; there = interface.1; holds = knows.holds }

      held : Holds setup s.controller c.gone c.endpoints (o ∷ os) c.events c.posted
      held = subst (λ (l : List RingOrder). Holds setup s.controller c.gone c.endpoints l c.events c.posted) first keeps.held

      few : length (o ∷ os) < 255
      few = omega (arith, (few_everywhere setup w c shows keeps.fine).1, keeps.bounded, ap length first)

      run : (r : Run) × (run_of s.controller s.controller.commands.waits ≡ Some r) × IsPosted b d e o.errand r.order × (r.code ≡ code_of a.ok)
          × Holds setup r.controller c.gone (with_end c.endpoints d e a.endpoint) os (c.events ++ map (event_at d e) a.told) c.posted
      run = runs setup s.controller c.gone c.endpoints o os c.events c.posted interface.0 keeps.plain held interface.1
          (λ running. fresh_while_running setup w c shows keeps.fine h d e (sym (ap (λ (f : Claims). holder setup f d e) shows.claims) ∙ knows.holds) running) knows.is_its
          (ap (λ (n : ℕ). o.place + n) (sym (ap length first)) ∙ knows.place) few

      new : State P
      new = record s { controller = run.0.controller }

      after : Core
      after = record (with_kept d e a.endpoint c) { orders = os; events = c.events ++ map (event_at d e) a.told }

      kept : Keeps setup new after
      kept = keeps_with setup s new c after h d e at
          (record { claims = refl; lanes = keeps.lanes; keyed = keeps.keyed; cells = keeps.cells; lines = λ dev ep other. refl; sent = λ dev ep other. refl })
          (record {
            same = refl;
            others = λ dev ep other. with_other c.endpoints d e a.endpoint dev ep other;
            mine = subst (λ (x : KeptEndpoint). KeepsEnd new (Some h) d e x) (sym (here c.endpoints d e a.endpoint))
                (record {
                  line = subst (λ (l : List KeptTransfer). AllItems (Some h) e (line_at s.flights d e) l) (sym (carry_line o.place b o.errand b.state).0) (end_at setup s c h d e at).line;
                  errand = (end_at setup s c h d e at).errand ∙ ap (λ (x : Option SentErrand). option_map in_ring x) (sym (carry_line o.place b o.errand b.state).1);
                });
            buffers = buffers_same s new refl refl (rings_run s.controller s.controller.commands.waits run.0 run.1) keeps.buffers;
            held = run.4;
            named = λ g. name_still s new g (c.names g) (pieces_of g c.results) refl refl (keeps.named g);
            ended = keeps.ended;
            ended_plain = keeps.ended_plain;
          })

      behind : (works h d e Command (carry_work e o.errand a) c).core ≡ after
      behind = core_as (works h d e Command (carry_work e o.errand a) c).core after (record {
        names = λ g. sym (own_name c.names h g);
        claims = λ dev i. refl;
        gone = λ dev. refl;
        endpoints = λ dev ep. refl;
        orders = append-nil (past_first true c.orders) ∙ ap (past_first true) first;
        events = refl;
        posted = refl;
        results = append-nil c.results;
      })

  -- where the controller has run an order: which it was, and that its entry and what it left are the core's
  pub record IsCommand (setup : Setup) (new : State P) (c : Core) (order : TrbKind) (code : ℕ) : Type 0 where
    pub d : ℕ
    pub e : ℕ
    pub errand : Errand
    pub name : ℕ
    pub said : order_in order ≡ Some (suc d, endpoint_id e, errand)
    pub plain : is_plain e ≡ true
    pub holds : holder setup c.claims d e ≡ Some name
    pub entry : (command_core setup c).entry ≡ record { owner = Some name; reply = Ran e errand (code == 1) }
    pub keeps : Keeps setup new (command_core setup c).core

  -- whatever was run is the oldest order of each core that is kept
  pub commanded : (setup : Setup) (w : World) (s : State P) (c : Core) (k : Controller) (order : TrbKind) (code : ℕ) → Keeps setup s c → Shows setup w c
      → option_map told_of (run_of s.controller s.controller.commands.waits) ≡ Some (order, code) → k ≡ option_map_or (λ x. x.controller) (run_of s.controller s.controller.commands.waits) s.controller
      → IsCommand setup (record s { controller = k }) c order code
  commanded setup w s c k order code keeps shows ran left = by_orders c.orders refl
    where
      by_orders : (l : List RingOrder) → c.orders ≡ l → IsCommand setup (record s { controller = k }) c order code
      by_orders [] none =
          let idle : ◌≡◌ {A = Option (TrbKind × ℕ)} (Some (order, code)) None = sym ran ∙ ap (λ (ks : List TrbKind). option_map told_of (run_of s.controller ks)) (none_waits setup s c keeps none) in
          absurd cc
      by_orders (o ∷ os) first =
          let knows = orders_fit setup keeps.fine w c shows o os first in
          let is = runs_order setup w s c o os keeps shows first knows in
          let both : ◌≡◌ {A = TrbKind × ℕ} (told_of is.r) (order, code) = same_Some (told_of is.r) (order, code) (sym (ap (option_map told_of) is.is) ∙ ran) in
          let interface = held_interface setup c.claims o.dev o.ep knows.name knows.holds in
          record {
            d = o.dev;
            e = o.ep;
            errand = o.errand;
            name = is.at;
            said = sym (ap (λ (x : TrbKind × ℕ). order_in x.0) both) ∙ is.order;
            plain = keeps.plain o.dev o.ep interface.0 interface.1;
            holds = is.holds;
            entry = is.entry ∙ ap (λ (x : TrbKind × ℕ). entry_of is.at o.ep o.errand (x.1 == 1)) both;
            keeps = subst (λ (v : Controller). Keeps setup (record s { controller = v }) (command_core setup c).core) (sym (left ∙ ap (λ (x : Option Run). option_map_or (λ x. x.controller) x s.controller) is.is)) is.keeps;
          }
        where
          entry_of : ℕ → ℕ → Errand → Bool → Entry
          entry_of h e errand ok = record { owner = Some h; reply = Ran e errand ok }

  -- where it has run none, none waits
  pub not_commanded : (setup : Setup) (w : World) (s : State P) (c : Core) (k : Controller) → Keeps setup s c → Shows setup w c → option_map told_of (run_of s.controller s.controller.commands.waits) ≡ None
      → k ≡ option_map_or (λ x. x.controller) (run_of s.controller s.controller.commands.waits) s.controller → Is setup (command_core setup c) (record { owner = None; reply = Idle }) (record s { controller = k })
  unfolding command_core command_first
  not_commanded setup w s c k keeps shows ran left = by_orders c.orders refl
    where
      none_ran : (o : Option Run) → option_map told_of o ≡ None → option_map_or (λ x. x.controller) o s.controller ≡ s.controller
      none_ran None is = refl
      none_ran (Some r) is = absurd cc

      by_orders : (l : List RingOrder) → c.orders ≡ l → Is setup (command_core setup c) (record { owner = None; reply = Idle }) (record s { controller = k })
      by_orders [] none =
          subst (λ (l : List RingOrder). Is setup (command_first setup c l) (record { owner = None; reply = Idle }) (record s { controller = k })) (sym none)
          (refl, subst (λ (v : Controller). Keeps setup (record s { controller = v }) c) (sym (left ∙ none_ran (run_of s.controller s.controller.commands.waits) ran)) keeps)
      by_orders (o ∷ os) first =
          let is = runs_order setup w s c o os keeps shows first (orders_fit setup keeps.fine w c shows o os first) in
          let some : ◌≡◌ {A = Option (TrbKind × ℕ)} (Some (told_of is.r)) None = sym (ap (option_map told_of) is.is) ∙ ran in
          absurd cc

  -- few events wait
  pub few_events : (setup : Setup) (w : World) (s : State P) (c : Core) → Keeps setup s c → Shows setup w c → length s.controller.events.waits ≤ 2160
  few_events setup w s c keeps shows =
      omega (arith, (few_everywhere setup w c shows keeps.fine).0, keeps.bounded, ap length keeps.held.told ∙ length-map c.events (event_trb s.controller.commands.memory.base))
