-- What the plain program keeps, shown as the definitions' world.
use Rattle.std.specs.Prelude.{◌≡◌, ℕ, ◌==◌, Bool, true, false, not, ◌||◌, [], Option, Some, None, slice_index_or, if◌then◌else◌}
use Rattle.std.specs.List.{list_all}
use Rattle.usb_model.specs.declared.entry.Entry.{Entry}
use Rattle.usb_model.specs.declared.setup.EndpointInfo.{EndpointInfo}
use Rattle.usb_model.specs.declared.endpoint.Endpoint.{Endpoint}
use Rattle.usb_model.specs.declared.endpoint.EndpointState.TheVariants.{Running}
use Rattle.usb_model.specs.declared.handle.Handle.{Handle}
use Rattle.reference.specs.declared.system.System.{System}
use Rattle.usb_model.specs.Setup.{Setup, endpoints_of}
use Rattle.usb_model.specs.Endpoint.{fresh}
use Rattle.usb_model.specs.declared.effect.Change.{Change}
use Rattle.usb_model.specs.declared.effect.Change.TheVariants.{Sets}
use Rattle.usb_model.specs.Machine.{Machine, endpoint_at, is_quiet}
use Rattle.usb_model.specs.World.{World, Turn, claims_after, all_ends_after, machine_with}
use Rattle.reference.specs.Tables.{cell_at, handle_at}

-- the world that a system is
abbrev pub world_of : Setup → System → World
world_of setup s = record {
  names = λ h. handle_at s.names h;
  claims = λ d i. cell_at None s.claims d i;
  endpoints = λ d e. cell_at (fresh setup d e) s.endpoints d e;
  gone = λ d. slice_index_or s.gone d false;
  orders = s.orders;
  news = s.news;
  results = s.results;
}

-- all of a device's endpoints, or those of one interface
abbrev pub is_chosen : Option ℕ → EndpointInfo → Bool
is_chosen None x = true
is_chosen (Some i) x = x.interface == i

-- what stands in the place of an endpoint that was taken out
abbrev pub no_endpoint : Endpoint
no_endpoint = record { line = []; script_left = []; device_halted = false; packets_received = []; state = Running; errand = None }

-- the world from which the name's endpoint was taken out
abbrev pub without_endpoint : Setup → ℕ → World → ℕ → ℕ → World
without_endpoint setup h w dev ep = record w { endpoints = λ d e. all_ends_after setup h w.claims w.endpoints (Sets dev ep no_endpoint) d e }

-- the world while a step's effect is made: the endpoint that the effect sets was taken out
abbrev pub with_endpoint_out : Setup → ℕ → World → Change → World
with_endpoint_out setup h w (Sets dev ep endpoint) = without_endpoint setup h w dev ep
with_endpoint_out setup h w _ = w

-- the world with another handle of a name
abbrev pub with_handle : ℕ → Handle → World → World
with_handle h handle w = record w { names = λ g. if h == g then handle else w.names g }

-- an endpoint of the device that a handle opened is taken out of the world, where it is its own
abbrev pub TakesOwn : Setup → ℕ → Handle → World → ℕ → Option (ℕ × Endpoint) → World → Type 0
TakesOwn setup h handle before ep None after = (endpoint_at (machine_with setup h handle before) ep ≡ None) × (after ≡ before)
TakesOwn setup h handle before ep (Some x) after = (handle.device ≡ Some x.0) × (endpoint_at (machine_with setup h handle before) ep ≡ Some x.1) × (after ≡ without_endpoint setup h before x.0 ep)

-- the world after a change of a name, but for what is kept of the name and the shared lists
abbrev pub changed : Setup → ℕ → World → Change → World
changed setup h w change = record w { claims = λ d i. claims_after h w.claims change d i; endpoints = λ d e. all_ends_after setup h w.claims w.endpoints change d e }

-- the entry and the world are those of a turn
abbrev pub Turns : Turn → Entry → World → Type 0
Turns t entry w = (entry ≡ t.entry) × (w ≡ t.world)
