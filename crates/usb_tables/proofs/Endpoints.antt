-- The table of endpoints: ids and addresses, and what it answers.
use Rattle.std.proofs.Common.{◌≡◌, ℕ, ◌+◌, ◌*◌, ◌/◌, ◌%◌, ◌<◌, ◌≤◌, ◌==◌, nat_lt, nat_le, Bool, true, false, ◌&&◌, List, [], ◌∷◌, Option, Some, None, slice_index_or, refl, sym, ap, ◌∙◌, arith}
use Rattle.std.specs.Prelude.{if◌then◌else◌}
use Rattle.std.specs.List.{AllByRecursion, find}
use Rattle.std.proofs.lemmas.Bool.{ltb-true, lt-ltb, leb-true, leb-false, eqb-true}
use Rattle.usb_model.specs.declared.setup.Configuration.{Configuration}
use Rattle.usb_model.specs.declared.setup.EndpointInfo.{EndpointInfo}
use Rattle.usb_model.specs.Setup.{endpoint_id, is_in}
use Rattle.usb_descriptors.specs.Table.{IsNumbered, addresses}
use Rattle.usb_tables.specs.Tables.{interface_at, is_plain, address_of_id, indexed, IsIndex}

-- an address in parts
pub plain_parts : (e : ℕ) → is_plain e ≡ true → (e < 256) × (e % 128 < 16)
plain_parts e plain = by_tests (nat_lt e 256) (nat_lt (e % 128) 16) refl refl plain
  where
    by_tests : (a b : Bool) → nat_lt e 256 ≡ a → nat_lt (e % 128) 16 ≡ b → (a && b) ≡ true → (e < 256) × (e % 128 < 16)
    by_tests true true p q both = (ltb-true e 256 p, ltb-true (e % 128) 16 q)
    by_tests true false p q both = absurd cc
    by_tests false b p q both = absurd cc

pub is_plain-from : (e : ℕ) → e < 256 → e % 128 < 16 → is_plain e ≡ true
is_plain-from e p q = rw (lt-ltb e 256 p, lt-ltb (e % 128) 16 q)

-- an id is below 32
pub id-lt : (e : ℕ) → endpoint_id e < 32
id-lt e = by_test (is_in e)
  where
    by_test : (b : Bool) → 2 * (e % 16) + (if b then 1 else 0) < 32
    by_test true = omega arith
    by_test false = omega arith

-- an address has its id
pub address-id : (e : ℕ) → e < 256 → e % 128 < 16 → address_of_id (endpoint_id e) ≡ e
address-id e p q = by_test (nat_le 128 e) refl
  where
    by_test : (b : Bool) → nat_le 128 e ≡ b → (2 * (e % 16) + (if b then 1 else 0)) / 2 + 128 * ((2 * (e % 16) + (if b then 1 else 0)) % 2) ≡ e
    by_test true t = let above = leb-true 128 e t in omega arith
    by_test false t = let below = leb-false 128 e t in omega arith

-- the address of an id is plain
pub address-lt : (id : ℕ) → id < 32 → address_of_id id < 256
address-lt id p = omega arith

pub address-low : (id : ℕ) → id < 32 → address_of_id id % 128 < 16
address-low id p = omega arith

-- and has this id
pub id-address : (id : ℕ) → id < 32 → endpoint_id (address_of_id id) ≡ id
id-address id p = by_test (nat_le 128 (address_of_id id)) refl
  where
    by_test : (b : Bool) → nat_le 128 (address_of_id id) ≡ b → 2 * (address_of_id id % 16) + (if b then 1 else 0) ≡ id
    by_test true t = let above = leb-true 128 (address_of_id id) t in omega arith
    by_test false t = let below = leb-false 128 (address_of_id id) t in omega arith

-- no numbered address is one that isn't plain
pub unnumbered : (e : ℕ) (xs : List EndpointInfo) → AllByRecursion IsNumbered (addresses xs) → is_plain e ≡ false → find (λ x. x.address == e) xs ≡ None
unnumbered e [] numbered odd = refl
unnumbered e (x ∷ xs) numbered odd = by_test (unnumbered e xs numbered.1 odd) (x.address == e) refl
  where
    by_test : find (λ y. y.address == e) xs ≡ None → (b : Bool) → (x.address == e) ≡ b → (if b then Some x else find (λ y. y.address == e) xs) ≡ None
    by_test rest true t =
        let same : x.address ≡ e = eqb-true x.address e t in
        let byte : e < 256 = omega (arith, numbered.0.byte) in
        let low : e % 128 < 16 = rw (← same) numbered.0.plain in
        let plain : is_plain e ≡ true = is_plain-from e byte low in
        absurd cc
    by_test rest false t = rest

-- an address with a bit of 6 to 4 is answered by none
pub indexed_none : (cells : List (Option ℕ)) (d e : ℕ) → 16 ≤ e % 128 → None ≡ indexed cells d e
unfolding indexed
indexed_none cells d e high = by_test (is_plain e) refl
  where
    by_test : (b : Bool) → is_plain e ≡ b → None ≡ (if b then slice_index_or cells (32 * d + endpoint_id e) None else None)
    by_test true t = let parts = plain_parts e t in absurd (omega (arith, parts.1))
    by_test false t = refl

-- each other by what stands at its id
pub indexed_is : (cells : List (Option ℕ)) (d e : ℕ) → e < 256 → e % 128 < 16 → indexed cells d e ≡ slice_index_or cells (32 * d + endpoint_id e) None
unfolding indexed
indexed_is cells d e p q = rw (lt-ltb e 256 p, lt-ltb (e % 128) 16 q)

-- the endpoint of an id by what stands there
pub indexed_at : (cells : List (Option ℕ)) (d id : ℕ) → id < 32 → indexed cells d (address_of_id id) ≡ slice_index_or cells (32 * d + id) None
indexed_at cells d id p =
    indexed_is cells d (address_of_id id) (address-lt id p) (address-low id p) ∙ ap (λ n. slice_index_or cells (32 * d + n) None) (id-address id p)

-- a table with the interface of each id in its place answers as the configurations say
pub index_made : (configs : List Configuration) (cells : List (Option ℕ))
    → ((k : ℕ) → k < 128 → slice_index_or cells k None ≡ interface_at configs (k / 32) (address_of_id (k % 32)))
    → ((k e : ℕ) → k < 128 → is_plain e ≡ false → interface_at configs (k / 32) e ≡ None)
    → IsIndex configs cells
unfolding indexed
index_made configs cells each odd = record { each = λ d e lt. by_test d e lt (is_plain e) refl }
  where
    by_test : (d e : ℕ) → d < 4 → (b : Bool) → is_plain e ≡ b → interface_at configs d e ≡ (if b then slice_index_or cells (32 * d + endpoint_id e) None else None)
    by_test d e lt true t =
        let parts = plain_parts e t in
        let id_lt : endpoint_id e < 32 = id-lt e in
        let device : (32 * d + endpoint_id e) / 32 ≡ d = omega arith in
        let id : (32 * d + endpoint_id e) % 32 ≡ endpoint_id e = omega arith in
        let address : address_of_id ((32 * d + endpoint_id e) % 32) ≡ e = ap address_of_id id ∙ address-id e parts.0 parts.1 in
        sym (each (32 * d + endpoint_id e) (omega arith) ∙ ap (λ n. interface_at configs n (address_of_id ((32 * d + endpoint_id e) % 32))) device ∙ ap (λ n. interface_at configs d n) address)
    by_test d e lt false t =
        let device : (32 * d) / 32 ≡ d = omega arith in
        sym (ap (λ n. interface_at configs n e) device) ∙ odd (32 * d) e (omega arith) t
