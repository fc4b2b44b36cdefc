-- What a submission is refused for, by what the parts answer, and when it is accepted.
use Rattle.std.proofs.Common.{◌≡◌, ℕ, ◌+◌, ◌≤◌, Bool, true, false, refl, ap, sym, subst, ◌∙◌, length, List, Option, Some, None, Result, Ok, Err, not}
use Rattle.std.specs.Prelude.{◌==◌, ◌||◌, nat_le, nat_lt, slice_get, if◌then◌else◌, option_map}
use Rattle.std.specs.List.{find}
use Rattle.std.specs.Option.{option_and_then, option_map_or, unwrap_or}
use Rattle.std.proofs.lemmas.Bool.{ltb-false}
use Rattle.usb_model.specs.declared.handle.Handle.{Handle}
use Rattle.usb_model.specs.declared.refused.Refused.{Refused}
use Rattle.usb_model.specs.declared.refused.Refused.TheVariants.{Busy, InvalidParam, NoDevice, NotFound, NotSupported}
use Rattle.usb_model.specs.declared.request.Body.{Body}
use Rattle.usb_model.specs.declared.request.Body.TheVariants.{In, Out}
use Rattle.usb_model.specs.declared.request.Kind.TheVariants.{Control}
use Rattle.usb_model.specs.declared.request.Request.{Request}
use Rattle.usb_model.specs.declared.setup.Configuration.{Configuration}
use Rattle.usb_model.specs.declared.setup.EndpointInfo.{EndpointInfo}
use Rattle.usb_model.specs.declared.step.Step.{Step}
use Rattle.usb_model.specs.Limits.{last_number, most_bytes, most_places}
use Rattle.usb_model.specs.Machine.Calls.{is_bad_body}
use Rattle.usb_model.specs.Requests.{is_same_kind, is_unsupported, length_of}
use Rattle.usb_model.specs.Setup.{Setup, info_of, interface_of, is_in, kind_of, packet_size_of}
use Rattle.usb_model.specs.World.{holder, is_its}
use Rattle.usb_descriptors.specs.Table.{info_at}
use Rattle.usb_tables.specs.Refusal.{checked, refusal_at, unless_refused}
use Rattle.usb_tables.specs.Tds.{Tds, tds_of}
use Rattle.refine_world.specs.Shows.{Core}
use Rattle.refine_world.specs.Steps.{Stepped}
use Rattle.refine_world.specs.Calls.{calls, is_gone, joins, own_kept, places_at, refuses, submit_core}
use Rattle.refine_core.specs.State.{Keeps, State}
use Rattle.refine_core.specs.Submissions.{RefusesIt, submits}
use Rattle.refine_core.proofs.Homes.{endpoints_are}

-- the name has no device open
pub refuses_closed : (setup : Setup) (c : Core) (h : ℕ) (request : Request) → (c.names h).device ≡ None → RefusesIt setup c h request NotFound
unfolding submit_core
refuses_closed setup c h request closed handle step round = ap (λ (o : Option ℕ). submit_core setup c h handle step request round (option_and_then (λ d. own_kept setup c h d request.ep) o)) closed

-- another holds the endpoint, or nobody
pub refuses_others : (setup : Setup) (c : Core) (h d : ℕ) (request : Request) → (c.names h).device ≡ Some d → is_its h (holder setup c.claims d request.ep) ≡ false → RefusesIt setup c h request NotFound
unfolding submit_core
refuses_others setup c h d request opened other handle step round =
    ap (λ (o : Option ℕ). submit_core setup c h handle step request round (option_and_then (λ d. own_kept setup c h d request.ep) o)) opened
    ∙ ap (λ (b : Bool). submit_core setup c h handle step request round (if b then Some (c.endpoints d request.ep) else None)) other

-- the first test that holds
abbrev chosen : Core → ℕ → (gone unsupported wrong full last : Bool) → Stepped → Stepped
chosen c h gone unsupported wrong full last rest =
    if gone then refuses c h NoDevice
    else if unsupported then refuses c h NotSupported
    else if wrong then refuses c h InvalidParam
    else if full then refuses c h Busy
    else if last then refuses c h Busy
    else rest

-- an endpoint of the name's device, of an interface that it holds
pub record IsOwn (setup : Setup) (c : Core) (h d e : ℕ) : Type 0 where
  pub opened : (c.names h).device ≡ Some d
  pub held : is_its h (holder setup c.claims d e) ≡ true

-- of two tests of which none holds
or_parts : (a b : Bool) → (a || b) ≡ false → (a ≡ false) × (b ≡ false)
or_parts true b is = absurd cc
or_parts false b is = (refl, is)

-- what is wrong with a request for an endpoint of this kind
abbrev pub is_wrong : Setup → ℕ → Request → Bool
is_wrong setup d request = not (is_same_kind request.kind (kind_of setup d request.ep)) || is_bad_body request.ep request.body

-- the tests, at such an endpoint
by_tests : (setup : Setup) (c : Core) (h d : ℕ) (request : Request) (handle : Handle) (step : Step) (round : ℕ) (gone unsupported wrong full last : Bool) → IsOwn setup c h d request.ep → c.gone d ≡ gone → is_unsupported (kind_of setup d request.ep) ≡ unsupported
    → is_wrong setup d request ≡ wrong → nat_le most_places (places_at c h request.ep (c.endpoints d request.ep)) ≡ full → ((c.names h).next_number == last_number) ≡ last
    → submits setup c h request handle step round
    ≡ chosen c h gone unsupported wrong full last (calls c h (record handle { next_number = (c.names h).next_number + 1 }) d request.ep step (joins (packet_size_of setup d request.ep) (c.endpoints d request.ep) (c.names h).next_number request round))
unfolding submit_core
by_tests setup c h d request handle step round gone unsupported wrong full last own is_gone is_unsupported_so is_wrong_so is_full is_last =
    ap (λ (o : Option ℕ). submit_core setup c h handle step request round (option_and_then (λ d. own_kept setup c h d request.ep) o)) own.opened
    ∙ ap (λ (b : Bool). submit_core setup c h handle step request round (if b then Some (c.endpoints d request.ep) else None)) own.held
    ∙ ap (λ (o : Option ℕ). at_device (unwrap_or o 0)) own.opened
    ∙ (λ i. chosen c h (is_gone i) (is_unsupported_so i) (is_wrong_so i) (is_full i) (is_last i) (accepted d))
  where
    accepted : ℕ → Stepped
    accepted n = calls c h (record handle { next_number = (c.names h).next_number + 1 }) n request.ep step (joins (packet_size_of setup n request.ep) (c.endpoints d request.ep) (c.names h).next_number request round)

    at_device : ℕ → Stepped
    at_device n = chosen c h (c.gone n) (is_unsupported (kind_of setup n request.ep)) (is_wrong setup n request) (nat_le most_places (places_at c h request.ep (c.endpoints d request.ep))) ((c.names h).next_number == last_number) (accepted n)

-- the device is gone
pub refuses_gone : (setup : Setup) (c : Core) (h d : ℕ) (request : Request) → IsOwn setup c h d request.ep → c.gone d ≡ true → RefusesIt setup c h request NoDevice
refuses_gone setup c h d request own gone handle step round = by_tests setup c h d request handle step round true _ _ _ _ own gone refl refl refl refl

-- no place is left, or no number
pub refuses_full : (setup : Setup) (c : Core) (h d : ℕ) (request : Request) → IsOwn setup c h d request.ep → c.gone d ≡ false → is_unsupported (kind_of setup d request.ep) ≡ false → is_wrong setup d request ≡ false
    → nat_le most_places (places_at c h request.ep (c.endpoints d request.ep)) ≡ true → RefusesIt setup c h request Busy
refuses_full setup c h d request own here supported right full handle step round = by_tests setup c h d request handle step round false false false true _ own here supported right full refl

pub refuses_last : (setup : Setup) (c : Core) (h d : ℕ) (request : Request) → IsOwn setup c h d request.ep → c.gone d ≡ false → is_unsupported (kind_of setup d request.ep) ≡ false → is_wrong setup d request ≡ false
    → ((c.names h).next_number == last_number) ≡ true → RefusesIt setup c h request Busy
refuses_last setup c h d request own here supported right last handle step round = by_places (nat_le most_places (places_at c h request.ep (c.endpoints d request.ep))) refl
  where
    by_places : (b : Bool) → nat_le most_places (places_at c h request.ep (c.endpoints d request.ep)) ≡ b → submits setup c h request handle step round ≡ refuses c h Busy
    by_places true full = by_tests setup c h d request handle step round false false false true true own here supported right full last
    by_places false free = by_tests setup c h d request handle step round false false false false true own here supported right free last

-- none of the tests holds
pub takes_it : (setup : Setup) (c : Core) (h d : ℕ) (request : Request) → IsOwn setup c h d request.ep → c.gone d ≡ false → is_unsupported (kind_of setup d request.ep) ≡ false → is_wrong setup d request ≡ false
    → nat_le most_places (places_at c h request.ep (c.endpoints d request.ep)) ≡ false → ((c.names h).next_number == last_number) ≡ false → (handle : Handle) (step : Step) (round : ℕ)
    → submits setup c h request handle step round ≡ calls c h (record handle { next_number = (c.names h).next_number + 1 }) d request.ep step (joins (packet_size_of setup d request.ep) (c.endpoints d request.ep) (c.names h).next_number request round)
takes_it setup c h d request own here supported right free more handle step round = by_tests setup c h d request handle step round false false false false false own here supported right free more

-- what the configuration's check of a request says of the tests; what is asked of the kind, and of the rest
pub record Passes (setup : Setup) (d : ℕ) (request : Request) (tds : Tds) : Type 0 where
  pub supported : is_unsupported (kind_of setup d request.ep) ≡ false
  pub right : is_wrong setup d request ≡ false
  pub split : tds ≡ tds_of (packet_size_of setup d request.ep) request

-- what the check answers at an endpoint that is there
abbrev pub CheckIs : Setup → Core → ℕ → ℕ → Request → Result Tds Refused → Type 0
CheckIs setup c h d request (Ok tds) = Passes setup d request tds
CheckIs setup c h d request (Err why) = RefusesIt setup c h request why

module _ {P : Type 0} where
  -- the endpoint in the configuration is the setup's
  info_is : (setup : Setup) (s : State P) (c : Core) (d e : ℕ) (config : Configuration) → Keeps setup s c → slice_get s.claims.configs d ≡ Some config → info_of setup d e ≡ info_at config e
  unfolding info_of
  info_is setup s c d e config keeps is = ap (λ (l : List EndpointInfo). find (λ (x : EndpointInfo). x.address == e) l) (endpoints_are setup s c d config keeps is)

  -- the check
  pub check_is : (setup : Setup) (s : State P) (c : Core) (h d : ℕ) (request : Request) (config : Configuration) (i : ℕ) → Keeps setup s c → IsOwn setup c h d request.ep → c.gone d ≡ false → interface_of setup d request.ep ≡ Some i
      → slice_get s.claims.configs d ≡ Some config → CheckIs setup c h d request (checked config request)
  check_is setup s c h d request config i keeps own here there is = by_info (info_of setup d request.ep) refl there
    where
      by_info : (o : Option EndpointInfo) → info_of setup d request.ep ≡ o → option_map (λ x. x.interface) o ≡ Some i → CheckIs setup c h d request (checked config request)
      by_info None none not_there = absurd cc
      by_info (Some x) found at = subst (CheckIs setup c h d request) (sym same) (by_test (is_unsupported (kind_of setup d request.ep)) refl (is_wrong setup d request) refl)
        where
          same : checked config request ≡ unless_refused (refusal_at (kind_of setup d request.ep) request) (tds_of (packet_size_of setup d request.ep) request)
          same =
              ap (λ (o : Option EndpointInfo). unless_refused (option_map_or (λ (v : EndpointInfo). refusal_at v.kind request) o (Some NotFound)) (tds_of (option_map_or (λ (v : EndpointInfo). v.packet_size) o 0) request)) (sym (info_is setup s c d request.ep config keeps is) ∙ found)
              ∙ sym (ap (λ (o : Option EndpointInfo). unless_refused (refusal_at (option_map_or (λ (v : EndpointInfo). v.kind) o Control) request) (tds_of (option_map_or (λ (v : EndpointInfo). v.packet_size) o 0) request)) found)

          by_test : (unsupported : Bool) → is_unsupported (kind_of setup d request.ep) ≡ unsupported → (wrong : Bool) → is_wrong setup d request ≡ wrong
              → CheckIs setup c h d request (unless_refused (if unsupported then Some NotSupported else if wrong then Some InvalidParam else None) (tds_of (packet_size_of setup d request.ep) request))
          by_test true un wrong wr = λ handle step round. by_tests setup c h d request handle step round false true _ _ _ own here un refl refl refl
          by_test false un true wr = λ handle step round. by_tests setup c h d request handle step round false false true _ _ own here un wr refl refl
          by_test false un false wr = record { supported = un; right = wr; split = refl }

-- a body that isn't bad has no more bytes than a transfer may have
pub short_body : (e : ℕ) (body : Body) → is_bad_body e body ≡ false → length_of body ≤ most_bytes
short_body e (In n) is = ltb-false most_bytes n (or_parts (not (is_in e)) (nat_lt most_bytes n) is).1
short_body e (Out bytes) is = ltb-false most_bytes (length bytes) (or_parts (is_in e) (nat_lt most_bytes (length bytes)) is).1

-- nothing is wrong with the body of a request that is right
pub right_body : (setup : Setup) (d : ℕ) (request : Request) → is_wrong setup d request ≡ false → is_bad_body request.ep request.body ≡ false
right_body setup d request right = (or_parts (not (is_same_kind request.kind (kind_of setup d request.ep))) (is_bad_body request.ep request.body) right).1
