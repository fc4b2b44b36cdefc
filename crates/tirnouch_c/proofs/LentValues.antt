-- The machine value of a `LentMemory`: what is owned tells it, and is made of nothing. Assumes `Logic`.
use Rattle.std.proofs.Common.{◌≡◌, ℕ, ◌^◌, ◌<◌, List, [], ◌∷◌, ◌++◌, refl, ◌∙◌, lit<, w64}
use lib.Dec.{T}
use seplogic.Ra.Ura.{Ura}
use mir.Syntax.{ty_ptr}
use mir.Val.{Val, vint, vstruct, vcons, vnil, of_list, has_ty, WT}
use base.Logic.{ent, emp}
use base.Fml.{Fml}
use types.Logic.{Logic, sem}
use denote.Builtin.{usize}
use denote.Param.{layout}
use denote.RawPtr.{Ptr, RawPtr, block_ptr, null_ptr, ptr_val}
use denote.Shadow.{shadow, makes_shadow}
use denote.Struct.Struct.{Struct}
use Rattle.tirnouch_c.specs.contracts.lent_memory.LentMemory.{the_row as R}

abbrev pub lent_val : Ptr → ℕ → ℕ → Val
lent_val p k n = vstruct (vcons (ptr_val p) (vcons (vint w64 k) (vcons (vint w64 n) vnil)))

-- what its three fields own: a struct's ownership does not read its name
abbrev pub lent_own : Ptr → ℕ → ℕ → List Val → Fml
lent_own p k n = (Struct (record { name = []; args = []; types = []; fields = RawPtr ∷ usize ∷ usize ∷ [] })).own_val (p, (k, (n, tt)))

pub lent_told : (p : Ptr) (k n : ℕ) (vs : List Val) → shadow (lent_own p k n vs) → (vs ≡ lent_val p k n ∷ []) × (k < 2 ^ 64) × (n < 2 ^ 64)
lent_told p k n vs s = (s.1.0 ∙ (λ i. vstruct (of_list (s.1.1.0 i ++ (s.1.1.1.0.0 i ++ (s.1.1.1.1.0.0 i ++ [])))) ∷ []), s.1.1.1.0.1, s.1.1.1.1.0.1)

pub lent_made : {M : Type 1} {𝓤 : Ura M} (𝓛 : Logic 𝓤) (p : Ptr) (k n : ℕ) → k < 2 ^ 64 → n < 2 ^ 64 → ent 𝓤 (emp 𝓤) (sem 𝓛 (lent_own p k n (lent_val p k n ∷ [])))
lent_made 𝓛 p k n fk fn = makes_shadow 𝓛 (lent_own p k n (lent_val p k n ∷ [])) (λ _. (tt, (tt, ((tt, tt), ((tt, tt), tt))))) ((ptr_val p ∷ [], (vint w64 k ∷ [], (vint w64 n ∷ [], tt))), (refl, (refl, ((refl, fk), ((refl, fn), tt)))))

pub ptr_typed : (p : Ptr) → T (has_ty ty_ptr (ptr_val p)) × WT (ptr_val p)
ptr_typed (block_ptr b o) = (tt, tt)
ptr_typed null_ptr = (tt, record { fits = lit< tt })

pub lent_typed : (p : Ptr) (k n : ℕ) → k < 2 ^ 64 → n < 2 ^ 64 → T (has_ty (layout R) (lent_val p k n)) × WT (lent_val p k n)
lent_typed (block_ptr b o) k n fk fn = (tt, (tt, (record { fits = fk }, (record { fits = fn }, tt))))
lent_typed null_ptr k n fk fn = (tt, (record { fits = lit< tt }, (record { fits = fk }, (record { fits = fn }, tt))))
