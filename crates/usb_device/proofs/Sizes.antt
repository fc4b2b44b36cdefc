-- A device of scripts takes packets as long as its configuration says.
use Rattle.std.proofs.Common.{◌≡◌, ℕ, ◌+◌, ◌*◌, ◌%◌, ◌==◌, nat_le, Bool, true, false, refl, ap, ◌∙◌, arith, List, [], ◌∷◌, Some, find, subst, leb-false, leb-true}
use Rattle.std.specs.Prelude.{if◌then◌else◌}
use Rattle.std.specs.List.{AllByRecursion}
use Rattle.std.specs.Option.{option_map_or}
use Rattle.std.proofs.lemmas.Bool.{eq-eqb, eqb-true, ne_eqb}
use Rattle.usb_model.specs.declared.response.Response.{Response}
use Rattle.usb_model.specs.declared.setup.Configuration.{Configuration}
use Rattle.usb_model.specs.declared.setup.EndpointInfo.{EndpointInfo}
use Rattle.usb_model.specs.Setup.{endpoint_id}
use Rattle.usb_descriptors.specs.Table.{IsNumbered, addresses}
use Rattle.usb_device.specs.Pipe.{Pipe, pipe_at}
use Rattle.usb_device.specs.Scripts.{Takes, pipes_of}
use Rattle.usb_device.proofs.Fits.{pipe_is}

-- numbered addresses of one id are one
same_id : (e f : ℕ) → IsNumbered e → IsNumbered f → endpoint_id e ≡ endpoint_id f → e ≡ f
same_id e f p q h = by_test (nat_le 128 e) (nat_le 128 f) refl refl h
  where
    by_test : (b c : Bool) → nat_le 128 e ≡ b → nat_le 128 f ≡ c → 2 * (e % 16) + (if b then 1 else 0) ≡ 2 * (f % 16) + (if c then 1 else 0) → e ≡ f
    by_test true true t u g = omega (arith, g, p.byte, p.plain, q.byte, q.plain, leb-true 128 e t, leb-true 128 f u)
    by_test true false t u g = absurd (omega (arith, g))
    by_test false true t u g = absurd (omega (arith, g))
    by_test false false t u g = omega (arith, g, p.byte, p.plain, q.byte, q.plain, leb-false 128 e t, leb-false 128 f u)

-- an endpoint that is found is numbered
numbered_at : (xs : List EndpointInfo) (e : ℕ) (z : EndpointInfo) → AllByRecursion IsNumbered (addresses xs) → find (λ (x : EndpointInfo). x.address == e) xs ≡ Some z → IsNumbered e
numbered_at [] e z all is = absurd cc
numbered_at (x ∷ xs) e z all is = by_test (x.address == e) refl is (numbered_at xs e z all.1)
  where
    by_test : (b : Bool) → (x.address == e) ≡ b → (if b then Some x else find (λ (y : EndpointInfo). y.address == e) xs) ≡ Some z → (find (λ (y : EndpointInfo). y.address == e) xs ≡ Some z → IsNumbered e) → IsNumbered e
    by_test true t q rest = subst IsNumbered (eqb-true x.address e t) all.0
    by_test false t q rest = rest q

-- among numbered endpoints one is found by its id as by its address
find_by_id : (xs : List EndpointInfo) (e : ℕ) → IsNumbered e → AllByRecursion IsNumbered (addresses xs) → find (λ (x : EndpointInfo). endpoint_id x.address == endpoint_id e) xs ≡ find (λ (x : EndpointInfo). x.address == e) xs
find_by_id [] e one all = refl
find_by_id (x ∷ xs) e one all = by_test (x.address == e) refl (find_by_id xs e one all.1)
  where
    by_test : (b : Bool) → (x.address == e) ≡ b → find (λ (y : EndpointInfo). endpoint_id y.address == endpoint_id e) xs ≡ find (λ (y : EndpointInfo). y.address == e) xs
        → find (λ (y : EndpointInfo). endpoint_id y.address == endpoint_id e) (x ∷ xs) ≡ (if b then Some x else find (λ (y : EndpointInfo). y.address == e) xs)
    by_test true t rest = let same : (endpoint_id x.address == endpoint_id e) ≡ true = eq-eqb _ _ (ap endpoint_id (eqb-true x.address e t)) in rw same refl
    by_test false t rest =
        let apart : (endpoint_id x.address == endpoint_id e) ≡ false = ne_eqb _ _ (λ (same : endpoint_id x.address ≡ endpoint_id e). absurd (cc (t, eq-eqb x.address e (same_id x.address e all.0 one same)))) in
        rw apart rest

-- the endpoints of a table have its sizes
pub table_takes : (c : Configuration) (scripts : List (List Response)) → Takes c (pipes_of c scripts)
table_takes c scripts table e z at supported =
    let size : (pipe_at (pipes_of c scripts) e).size ≡ z.packet_size =
    ap (λ (p : Pipe). p.size) (pipe_is c scripts e)
    ∙ ap (λ o. option_map_or (λ (x : EndpointInfo). x.packet_size) o 0) (find_by_id c.endpoints e (numbered_at c.endpoints e z table.numbered at) table.numbered ∙ at) in
    omega (arith, size)
