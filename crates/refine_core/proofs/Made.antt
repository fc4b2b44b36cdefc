-- The parts as they are made keep a new core.
use Rattle.std.proofs.Common.{◌++◌, ◌+◌, zero, ◌≡◌, ℕ, suc, ◌*◌, ◌≤◌, ◌<◌, ◌⊎◌, inl, inr, refl, ap, sym, subst, subst₂, ◌∙◌, arith, List, [], ◌∷◌, length, map, Option, Some, None, length-append, replicate, slice_index_or}
use Rattle.std.specs.Prelude.{slice_get}
use Rattle.std.proofs.lemmas.List.{length-map, length-replicate}
use Rattle.usb_tables.specs.ByEndpoint.{lane_at}
use Rattle.usb_tables.specs.TransfersInFlight.{TransfersInFlight, keys_at, line_at}
use Rattle.std.proofs.lemmas.Option.{same_Some, slice_get-map, slice_get_within}
use Rattle.std.specs.Prelude.{option_map}
use Rattle.std.specs.Option.{option_and_then}
use Rattle.usb_xhc.specs.Context.{Context}
use Rattle.usb_descriptors.specs.Table.{IsTable}
use Rattle.usb_device.specs.Pipe.{Pipe, rewound}
use Rattle.usb_device.specs.Scripts.{Takes}
use Rattle.usb_xhc.specs.Made.{slot_for}
use Rattle.usb_model.specs.declared.setup.Configuration.{Configuration}
use Rattle.usb_model.specs.declared.setup.DeviceSetup.{DeviceSetup}
use Rattle.usb_model.specs.declared.setup.EndpointInfo.{EndpointInfo}
use Rattle.usb_model.specs.Machine.Calls.{callback_of}
use Rattle.usb_model.specs.Setup.{Setup, endpoint_id}
use Rattle.usb_model.specs.World.{holder, new_world}
use Rattle.usb_tables.specs.declared.transfer.Transfer.{Transfer as InFlight}
use Rattle.usb_xhc.specs.Controller.{AreLawfulAll, Controller, all_renewed}
use Rattle.usb_xhc.specs.Slots.{DeviceSlot, as_made, context_by, slot_renewed}
use Rattle.refine_world.specs.Lively.{IsFine, ends_from}
use Rattle.refine_world.specs.Shows.{Core}
use Rattle.refine_world.specs.Steps.{new_core}
use Rattle.refine_world.proofs.NewCore.{new_shows}
use Rattle.refine_rings.specs.Holds.{HoldsCore}
use Rattle.refine_rings.specs.Made.{AreLawful, IsOf, IsRead, IsSlotOf}
use Rattle.refine_rings.specs.Laws.{HasNumbers, HasPlain}
use Rattle.refine_rings.proofs.Fine.{fine, lawful_scripts}
use Rattle.refine_rings.proofs.Made.{added, is_of, made}
use Rattle.refine_core.specs.Made.{AreReady, AreUnused, Devices, setup_from, setup_of}
use Rattle.refine_core.specs.State.{AllItems, Keeps, NameBuffers, ShowsWorld, State, result_of}
use Rattle.refine_core.proofs.Buffers.{NamesIn, buffers_by}
use Rattle.refine_core.proofs.Ringed.{ring_in, ringed, ringed_in}

-- as many devices as configurations
setup_length : (cs : List Configuration) (ss : List DeviceSlot) → length cs ≡ length ss → length (setup_from cs ss) ≡ length cs
setup_length [] ss same = refl
setup_length (c ∷ cs) [] same = absurd (omega (arith, same))
setup_length (c ∷ cs) (s ∷ ss) same = ap suc (setup_length cs ss (omega (arith, same)))

-- with these configurations
setup_configs : (cs : List Configuration) (ss : List DeviceSlot) → length cs ≡ length ss → map (λ v. v.config) (setup_from cs ss) ≡ cs
setup_configs [] ss same = refl
setup_configs (c ∷ cs) [] same = absurd (omega (arith, same))
setup_configs (c ∷ cs) (s ∷ ss) same = ap (λ (l : List Configuration). c ∷ l) (setup_configs cs ss (omega (arith, same)))

-- one more of both
setup_more : (cs : List Configuration) (ss : List DeviceSlot) (c : Configuration) (s : DeviceSlot) → length cs ≡ length ss
    → setup_from (cs ++ c ∷ []) (ss ++ s ∷ []) ≡ setup_from cs ss ++ record { config = c; scripts = map (λ p. p.script) s.pipes } ∷ []
setup_more [] [] c s same = refl
setup_more [] (t ∷ ss) c s same = absurd (omega (arith, same))
setup_more (b ∷ cs) [] c s same = absurd (omega (arith, same))
setup_more (b ∷ cs) (t ∷ ss) c s same = ap (λ (l : Setup). record { config = b; scripts = map (λ p. p.script) t.pipes } ∷ l) (setup_more cs ss c s (omega (arith, same)))

-- what stands in a longer list stood there before, or is new
more_get : {A : Type 0} (xs : List A) (x : A) (i : ℕ) (y : A) → slice_get (xs ++ x ∷ []) i ≡ Some y → (slice_get xs i ≡ Some y) ⊎ ((i ≡ length xs) × (x ≡ y))
more_get [] x zero y there = inr (refl, same_Some x y there)
more_get [] x (suc i) y there = absurd cc
more_get (z ∷ xs) x zero y there = inl there
more_get (z ∷ xs) x (suc i) y there = by_rest (more_get xs x i y there)
  where
    by_rest : (slice_get xs i ≡ Some y) ⊎ ((i ≡ length xs) × (x ≡ y)) → (slice_get xs i ≡ Some y) ⊎ ((suc i ≡ suc (length xs)) × (x ≡ y))
    by_rest (inl before) = inl before
    by_rest (inr new) = inr (ap suc new.0, new.1)

-- with a device more they are ready
ready_more : (x : Devices) (c : Configuration) (s : DeviceSlot) → AreReady x → length x.configs < 4 → IsTable c.endpoints × (length c.endpoints ≤ 30)
    → IsSlotOf (length x.controller.slots) (record { config = c; scripts = map (λ p. p.script) s.pipes }) s
    → AreReady (record { configs = x.configs ++ c ∷ []; controller = record x.controller { slots = x.controller.slots ++ s ∷ [] } })
ready_more x c s ready room table new = record {
  as_many = length-append x.configs (c ∷ []) ∙ (ap (λ (n : ℕ). n + 1) ready.as_many ∙ sym (length-append x.controller.slots (s ∷ [])));
  few = omega (arith, room, length-append x.configs (c ∷ []));
  each = λ d v t there at. by_both d v t (more_get (setup_of x) one d v (subst (λ (l : Setup). slice_get l d ≡ Some v) more there)) (more_get x.controller.slots s d t at);
  tables = λ d v there. by_setup d v (more_get (setup_of x) one d v (subst (λ (l : Setup). slice_get l d ≡ Some v) more there));
}
  where
    one : DeviceSetup
    one = record { config = c; scripts = map (λ p. p.script) s.pipes }

    more : setup_from (x.configs ++ c ∷ []) (x.controller.slots ++ s ∷ []) ≡ setup_of x ++ one ∷ []
    more = setup_more x.configs x.controller.slots c s ready.as_many

    as_long : length (setup_of x) ≡ length x.controller.slots
    as_long = setup_length x.configs x.controller.slots ready.as_many ∙ ready.as_many

    by_both : (d : ℕ) (v : DeviceSetup) (t : DeviceSlot) → (slice_get (setup_of x) d ≡ Some v) ⊎ ((d ≡ length (setup_of x)) × (one ≡ v)) → (slice_get x.controller.slots d ≡ Some t) ⊎ ((d ≡ length x.controller.slots) × (s ≡ t)) → IsSlotOf d v t
    by_both d v t (inl before) (inl at) = ready.each d v t before at
    by_both d v t (inl before) (inr at) = absurd (omega (arith, slice_get_within (setup_of x) d v before, at.0, as_long))
    by_both d v t (inr after) (inl at) = absurd (omega (arith, slice_get_within x.controller.slots d t at, after.0, as_long))
    by_both d v t (inr after) (inr at) = subst₂ (λ (u : DeviceSetup) (r : DeviceSlot). IsSlotOf d u r) after.1 at.1 (subst (λ (n : ℕ). IsSlotOf n one s) (sym at.0) new)

    by_setup : (d : ℕ) (v : DeviceSetup) → (slice_get (setup_of x) d ≡ Some v) ⊎ ((d ≡ length (setup_of x)) × (one ≡ v)) → IsTable v.config.endpoints × (length v.config.endpoints ≤ 30)
    by_setup d v (inl before) = ready.tables d v before
    by_setup d v (inr after) = subst (λ (u : DeviceSetup). IsTable u.config.endpoints × (length u.config.endpoints ≤ 30)) after.1 table

-- few endpoints each make few in all
few_ends : (n : ℕ) (setup : Setup) → ((d : ℕ) (v : DeviceSetup) → slice_get setup d ≡ Some v → IsTable v.config.endpoints × (length v.config.endpoints ≤ 30)) → length (ends_from n setup) ≤ 30 * length setup
few_ends n [] tables = omega arith
few_ends n (v ∷ vs) tables =
    let at : EndpointInfo → ℕ × ℕ = λ x. (n, x.address) in
    let rest = few_ends (suc n) vs (λ d x there. tables (suc d) x there) in
    let here = (tables 0 v refl).1 in
    omega (arith, rest, here, length-append (map at v.config.endpoints) (ends_from (suc n) vs), length-map v.config.endpoints at)

-- the setup of a controller that has its scripts is that setup
setup_again : (setup : Setup) (cs : List Configuration) (ss : List DeviceSlot) → map (λ v. v.config) setup ≡ cs → length ss ≡ length setup
    → ((d : ℕ) (x : DeviceSetup) (s : DeviceSlot) → slice_get setup d ≡ Some x → slice_get ss d ≡ Some s → x.scripts ≡ map (λ p. p.script) s.pipes) → setup_from cs ss ≡ setup
setup_again [] cs ss is same scripts = ap (λ (l : List Configuration). setup_from l ss) (sym is)
setup_again (x ∷ xs) cs [] is same scripts = absurd (omega (arith, same))
setup_again (x ∷ xs) cs (s ∷ ss) is same scripts =
    ap (λ (l : List Configuration). setup_from l (s ∷ ss)) (sym is)
    ∙ (ap (λ l. record { config = x.config; scripts = l } ∷ setup_from (map (λ v. v.config) xs) ss) (sym (scripts 0 x s refl refl))
    ∙ ap (λ (l : Setup). x ∷ l) (setup_again xs (map (λ v. v.config) xs) ss refl (omega (arith, same)) (λ d y t a b. scripts (suc d) y t a b)))

-- the scripts of a device that is rewound
scripts_rewound : (pipes : List Pipe) → map (λ (p : Pipe). p.script) (map rewound pipes) ≡ map (λ (p : Pipe). p.script) pipes
scripts_rewound [] = refl
scripts_rewound (p ∷ ps) = ap (λ l. p.script ∷ l) (scripts_rewound ps)

-- devices that keep their law, and configurations that were read
all_read : (x : Devices) → AreReady x → AreLawfulAll (all_renewed x.controller).slots → (d : ℕ) (v : DeviceSetup) → slice_get (setup_of x) d ≡ Some v → IsRead v
all_read x ready laws d v there = by_slot (slice_get x.controller.slots d) refl
  where
    within : d < length x.controller.slots
    within = omega (arith, slice_get_within (setup_of x) d v there, setup_length x.configs x.controller.slots ready.as_many, ready.as_many)

    by_slot : (o : Option DeviceSlot) → slice_get x.controller.slots d ≡ o → IsRead v
    by_slot None none = absurd (omega (arith, within, past x.controller.slots d none))
      where
        past : (l : List DeviceSlot) (k : ℕ) → slice_get l k ≡ None → length l ≤ k
        past [] k h = omega arith
        past (y ∷ ys) zero h = absurd cc
        past (y ∷ ys) (suc k) h = let rest = past ys k h in omega (arith, rest)
    by_slot (Some s) at =
        let made : slice_get (map slot_renewed x.controller.slots) d ≡ Some (slot_renewed s) = slice_get-map slot_renewed x.controller.slots d ∙ ap (option_map slot_renewed) at in
        record {
          table = (ready.tables d v there).0;
          short = (ready.tables d v there).1;
          lawful = subst AreLawful (scripts_rewound s.pipes ∙ sym (ready.each d v s there at).scripts) (lawful_scripts (map rewound s.pipes) (laws d (slot_renewed s) made));
        }

-- what stands in a list of which each was made new
index_made : (xs : List (Option Context)) (i : ℕ) → slice_index_or (map (option_map as_made) xs) i None ≡ option_map as_made (slice_index_or xs i None)
index_made [] i = refl
index_made (x ∷ xs) zero = refl
index_made (x ∷ xs) (suc i) = index_made xs i

module _ {P : Type 0} where
  -- where all is new no ring has an item
  none_buffers : (s : State P) (k : Controller) → s.controller ≡ all_renewed k → ((d e : ℕ) → line_at s.flights d e ≡ []) → ((d e : ℕ) → keys_at s.flights.keys d e ≡ []) → NameBuffers s
  none_buffers s k is lines keys = buffers_by s (λ d e.
      subst₂ (λ (ks : List (Option ℕ)) (xs : List (Option (InFlight P))). NamesIn ks xs (ringed_in s.controller d (endpoint_id e))) (sym (keys d e)) (sym (lines d e))
      (subst (λ (o : Option Context). NamesIn {P = P} [] [] (option_map ringed o)) (sym (ap (λ (v : Controller). ring_in v d (endpoint_id e)) is ∙ made_in d (endpoint_id e))) (none (ring_in k d (endpoint_id e)))))
    where
      made_in : (d id : ℕ) → ring_in (all_renewed k) d id ≡ option_map as_made (ring_in k d id)
      made_in d id = ap (option_and_then (λ v. context_by v id)) (slice_get-map slot_renewed k.slots d) ∙ by_slot (slice_get k.slots d)
        where
          by_slot : (o : Option DeviceSlot) → option_and_then (λ v. context_by v id) (option_map slot_renewed o) ≡ option_map as_made (option_and_then (λ v. context_by v id) o)
          by_slot None = refl
          by_slot (Some v) = index_made v.contexts id

      none : (o : Option Context) → NamesIn {P = P} [] [] (option_map ringed (option_map as_made o))
      none None = tt
      none (Some x) = tt

  -- parts that are unused keep a new core
  pub keeps_new : (s : State P) (x : Devices) → AreReady x → AreUnused s x → Keeps (setup_of x) s (new_core (setup_of x))
  unfolding callback_of
  keeps_new s x ready unused = record {
    set = setup_configs x.configs x.controller.slots ready.as_many ∙ sym unused.configs;
    plain = fined.0;
    fine = fined.2;
    read = read;
    few = omega (arith, ready.few, setup_length x.configs x.controller.slots ready.as_many);
    bounded = omega (arith, few_ends 0 (setup_of x) ready.tables, ready.few, setup_length x.configs x.controller.slots ready.as_many);
    lanes = unused.lanes;
    keyed = unused.keyed;
    cells = unused.cells;
    buffers = none_buffers s x.controller unused.controller unused.lines unused.keys;
    held = subst (λ (k : Controller). HoldsCore (setup_of x) k (new_core (setup_of x))) (sym unused.controller)
        (made (setup_of x) x.controller fined.0 (record {
          slots = sym ready.as_many ∙ sym (setup_length x.configs x.controller.slots ready.as_many);
          each = ready.each;
        }) laws);
    claimed = λ d i. sym (unused.free d i);
    named = λ h. record {
      device = sym (unused.closed h);
      number = sym (unused.numbers h);
      callback = λ n. sym (unused.callbacks h n);
      called = λ e plain. sym (unused.called h (endpoint_id e));
      waiting = λ e plain. sym (unused.results h (endpoint_id e));
      plain = tt;
    };
    ended = ap (map result_of) (sym unused.ended);
    ended_plain = tt;
    ends = λ d e i there. record {
      line = subst (λ (l : List (Option (InFlight P))). AllItems (holder (setup_of x) (new_core (setup_of x)).claims d e) e l []) (sym (unused.lines d e)) tt;
      errand = unused.errands d e;
    };
    free = λ d e i there nobody. (refl, refl);
  }
    where
      laws : AreLawfulAll (all_renewed x.controller).slots
      laws = subst (λ (k : Controller). AreLawfulAll k.slots) unused.controller unused.laws

      read : (d : ℕ) (v : DeviceSetup) → slice_get (setup_of x) d ≡ Some v → IsRead v
      read = all_read x ready laws

      fined : HasPlain (setup_of x) × HasNumbers (setup_of x) × IsFine (setup_of x)
      fined = fine (setup_of x) read

  -- they show the new world of these devices
  pub shows_new : (s : State P) (x : Devices) → AreReady x → AreUnused s x → ShowsWorld (setup_of x) s (new_world (setup_of x))
  shows_new s x ready unused = (new_core (setup_of x), keeps_new s x ready unused, new_shows (setup_of x))

  -- parts that keep a core have the devices of its setup
  pub ready_again : (setup : Setup) (s : State P) (c : Core) → Keeps setup s c → AreReady (record { configs = s.claims.configs; controller = s.controller }) × (setup_of (record { configs = s.claims.configs; controller = s.controller }) ≡ setup)
  ready_again setup s c keeps = (
    record {
      as_many = sym (ap length keeps.set) ∙ (length-map setup (λ v. v.config) ∙ sym keeps.held.slots);
      few = omega (arith, keeps.few, ap length keeps.set, length-map setup (λ v. v.config));
      each = λ d v t there at. of.each d v t (subst (λ (l : Setup). slice_get l d ≡ Some v) same there) at;
      tables = λ d v there. let read = keeps.read d v (subst (λ (l : Setup). slice_get l d ≡ Some v) same there) in (read.table, read.short);
    },
    same,
  )
    where
      of : IsOf setup s.controller
      of = is_of setup s.controller c.gone c.endpoints c.orders c.events c.posted keeps.held

      same : setup_from s.claims.configs s.controller.slots ≡ setup
      same = setup_again setup s.claims.configs s.controller.slots keeps.set of.slots (λ d x t there at. (of.each d x t there at).scripts)

-- lines as they are made
pub record HasNoLines {T : Type 0} (f : TransfersInFlight T) : Type 0 where
  pub lanes : length f.lines ≡ 128
  pub lines : (d e : ℕ) → line_at f d e ≡ []
  pub keyed : length f.keys ≡ 128
  pub keys : (d e : ℕ) → keys_at f.keys d e ≡ []
  pub ended : f.ended ≡ []

pub no_lines : {T : Type 0} (f : TransfersInFlight T) → f ≡ record { lines = replicate 128 []; keys = replicate 128 []; ended = []; next_key = 0 } → HasNoLines f
no_lines {T} f is = record {
  lanes = ap (λ (v : TransfersInFlight T). length v.lines) is ∙ length-replicate 128 nothing;
  lines = λ d e. ap (λ (v : TransfersInFlight T). line_at v d e) is ∙ none 128 (lane_at d e);
  keyed = ap (λ (v : TransfersInFlight T). length v.keys) is ∙ length-replicate 128 no_keys;
  keys = λ d e. ap (λ (v : TransfersInFlight T). keys_at v.keys d e) is ∙ none 128 (lane_at d e);
  ended = ap (λ (v : TransfersInFlight T). v.ended) is;
}
  where
    nothing : List (Option T)
    nothing = []

    no_keys : List (Option ℕ)
    no_keys = []

    none : {A : Type 0} (n k : ℕ) → ◌≡◌ {A = List A} (slice_index_or (replicate n []) k []) []
    none zero k = refl
    none (suc n) zero = refl
    none (suc n) (suc k) = none n k

-- a device of a configuration is added at its slot
pub ready_added : (x : Devices) (k : Controller) (c : Configuration) (pipes : List Pipe) → AreReady x → length x.configs < 4 → IsTable c.endpoints → length c.endpoints ≤ 30 → Takes c pipes
    → k ≡ record x.controller { slots = x.controller.slots ++ slot_for (suc (length x.controller.slots)) c pipes ∷ [] }
    → AreReady (record { configs = x.configs ++ c ∷ []; controller = k }) × (setup_from (x.configs ++ c ∷ []) k.slots ≡ setup_of x ++ record { config = c; scripts = map (λ p. p.script) pipes } ∷ [])
ready_added x k c pipes ready room table short takes is = (
  subst (λ (v : Controller). AreReady (record { configs = x.configs ++ c ∷ []; controller = v })) (sym is)
      (ready_more x c slot ready room (table, short) (added (length x.controller.slots) (record { config = c; scripts = map (λ p. p.script) pipes }) pipes table refl (takes table))),
  ap (λ (v : Controller). setup_from (x.configs ++ c ∷ []) v.slots) is ∙ setup_more x.configs x.controller.slots c slot ready.as_many,
)
  where
    slot : DeviceSlot
    slot = slot_for (suc (length x.controller.slots)) c pipes
