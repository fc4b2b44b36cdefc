-- What is asked of a setup follows from what was read, and from what devices promise.
use Rattle.std.proofs.Common.{subst, ◌≡◌, ℕ, ◌<◌, ◌==◌, ◌%◌, Bool, true, false, refl, ap, sym, ◌∙◌, arith, List, [], ◌∷◌, map, Option, Some, None, find, slice_get, lt-ltb}
use Rattle.std.specs.Prelude.{nat_lt, option_map, ◌&&◌, ◌||◌, if◌then◌else◌}
use Rattle.std.specs.Option.{option_and_then, option_map_or, unwrap_or}
use Rattle.std.specs.List.{AllByRecursion, list_all}
use Rattle.std.proofs.lemmas.Bool.{and_from, eqb-true, ltb-false, or_parts}
use Rattle.std.proofs.lemmas.List.{length-map}
use Rattle.std.proofs.lemmas.Option.{same_Some, slice_get-map}
use Rattle.usb_model.specs.declared.request.Kind.{Kind}
use Rattle.usb_model.specs.declared.request.Kind.TheVariants.{Bulk, Control, Interrupt, Isochronous}
use Rattle.usb_model.specs.declared.response.Response.{Response}
use Rattle.usb_model.specs.declared.setup.DeviceSetup.{DeviceSetup}
use Rattle.usb_model.specs.declared.setup.EndpointInfo.{EndpointInfo}
use Rattle.usb_model.specs.Direction.{is_of_direction}
use Rattle.usb_model.specs.Requests.{is_unsupported}
use Rattle.usb_model.specs.Setup.{Setup, endpoint_id, info_of, interface_of, is_in, kind_of, packet_size_of, script_at, script_of}
use Rattle.usb_descriptors.specs.Grammar.{is_bad_size, is_transfer_kind}
use Rattle.usb_descriptors.specs.Table.{IsNumbered, addresses}
use Rattle.usb_device.specs.Pipe.{Pipe, no_pipe}
use Rattle.refine_rings.specs.Laws.{IsFineRead, IsLawfulByScripts}
use Rattle.refine_rings.specs.Made.{IsRead}
use Rattle.refine_rings.proofs.Found.{IsFound, found}

-- an endpoint that is found is numbered, and its size isn't bad
pub found_in : (xs : List EndpointInfo) (e : ℕ) (z : EndpointInfo) → AllByRecursion IsNumbered (addresses xs) → AllByRecursion (λ (x : EndpointInfo). is_bad_size x ≡ false) xs → find (λ (x : EndpointInfo). x.address == e) xs ≡ Some z
    → IsNumbered e × (is_bad_size z ≡ false)
found_in [] e z numbered sized is = absurd cc
found_in (x ∷ xs) e z numbered sized is = by_test (x.address == e) refl is (found_in xs e z numbered.1 sized.1)
  where
    by_test : (b : Bool) → (x.address == e) ≡ b → (if b then Some x else find (λ (y : EndpointInfo). y.address == e) xs) ≡ Some z
        → (find (λ (y : EndpointInfo). y.address == e) xs ≡ Some z → IsNumbered e × (is_bad_size z ≡ false)) → IsNumbered e × (is_bad_size z ≡ false)
    by_test true t q rest = let same : x ≡ z = same_Some x z q in (subst IsNumbered (eqb-true x.address e t) numbered.0, ap is_bad_size (sym same) ∙ sized.0)
    by_test false t q rest = rest q

-- a size that isn't bad is above 0, where transfers can go
size_above : (kind : Kind) (size : ℕ) → (is_transfer_kind kind && (nat_lt size 1 || nat_lt 1024 size)) ≡ false → is_unsupported kind ≡ false → 0 < size
size_above Control size good supported = absurd cc
size_above Isochronous size good supported = absurd cc
size_above Bulk size good supported = let le = ltb-false size 1 (or_parts (nat_lt size 1) _ good).0 in omega (arith, le)
size_above Interrupt size good supported = let le = ltb-false size 1 (or_parts (nat_lt size 1) _ good).0 in omega (arith, le)

-- what was read of an endpoint of an interface
read_at : (setup : Setup) (d e i : ℕ) → ((a : ℕ) (x : DeviceSetup) → slice_get setup a ≡ Some x → IsRead x) → interface_of setup d e ≡ Some i → IsNumbered e × (is_unsupported (kind_of setup d e) ≡ false → 0 < packet_size_of setup d e)
read_at setup d e i read at =
    let f : IsFound setup d e = found setup d e i at in
    let r : IsRead f.device = read d f.device f.there in
    let g = found_in f.device.config.endpoints e f.info r.table.numbered r.table.sized f.here in (
      g.0,
      subst (λ (o : Option EndpointInfo). is_unsupported (option_map_or (λ (x : EndpointInfo). x.kind) o Control) ≡ false → 0 < option_map_or (λ (x : EndpointInfo). x.packet_size) o 0) (sym f.is)
          (size_above f.info.kind f.info.packet_size g.1),
    )

-- answers of its direction
answers_go : (setup : Setup) (d e : ℕ) → ((a : ℕ) (x : DeviceSetup) → slice_get setup a ≡ Some x → IsRead x) → list_all (is_of_direction (is_in e)) (script_of setup d e) ≡ true
answers_go setup d e read = by_info (info_of setup d e) refl
  where
    by_device : (o : Option DeviceSetup) → slice_get setup d ≡ o → list_all (is_of_direction (is_in e)) (unwrap_or (option_and_then (λ (x : DeviceSetup). slice_get x.scripts (endpoint_id e)) o) []) ≡ true
    by_device None none = refl
    by_device (Some x) there = (read d x there).lawful.fit e

    by_info : (o : Option EndpointInfo) → info_of setup d e ≡ o → list_all (is_of_direction (is_in e)) (option_map_or (λ (x : EndpointInfo). script_at setup d (endpoint_id e)) o []) ≡ true
    by_info None none = refl
    by_info (Some z) is = by_device (slice_get setup d) refl

-- a setup that was read is fine
pub fine : IsFineRead
fine setup read = (
  λ d e i at. let n = (read_at setup d e i read at).0 in and_from _ _ (lt-ltb e 256 n.byte) (lt-ltb (e % 128) 16 n.plain),
  λ d e i at. (read_at setup d e i read at).0.number,
  record { sizes = λ d e i at. (read_at setup d e i read at).1; kinds = λ d e. answers_go setup d e read },
)

-- the law of a device, said of its scripts
pub lawful_scripts : IsLawfulByScripts
lawful_scripts pipes is = record {
  all = length-map pipes (λ (p : Pipe). p.script) ∙ is.all;
  fit = λ ep. subst (λ (l : List Response). list_all (is_of_direction (is_in ep)) l ≡ true) (sym (same (endpoint_id ep))) (is.fit ep);
}
  where
    by_pipe : (o : Option Pipe) → unwrap_or (option_map (λ (p : Pipe). p.script) o) [] ≡ (unwrap_or o no_pipe).script
    by_pipe None = refl
    by_pipe (Some p) = refl

    same : (id : ℕ) → unwrap_or (slice_get (map (λ (p : Pipe). p.script) pipes) id) [] ≡ (unwrap_or (slice_get pipes id) no_pipe).script
    same id = ap (λ (o : Option (List Response)). unwrap_or o []) (slice_get-map (λ (p : Pipe). p.script) pipes id) ∙ by_pipe (slice_get pipes id)
