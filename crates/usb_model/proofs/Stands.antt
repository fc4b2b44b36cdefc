-- Bytes are read off where a transfer stands.
use Rattle.std.proofs.Common.{zero-add, Bool, List, [], ap, arith, false, length, refl, take, drop, true, ℕ, suc, ◌+◌, ◌-◌, ◌<◌, ◌≤◌, ◌∙◌, ◌∷◌, ◌≡◌}
use Rattle.std.specs.Prelude.{if◌then◌else◌, nat_lt}
use Rattle.std.proofs.lemmas.Bool.{le-ltb, ltb-false, ltb-true}
use Rattle.usb_model.specs.Stands.{Stand, stand, one_on, length_at, residual, read_off, total}

-- what is known of where a transfer of these TRBs stands
pub record Stands (ls : List ℕ) (c : ℕ) (s : Stand) : Type 0 where
  pub inside : s.index < length ls
  pub some_left : s.within ≤ length_at ls s.index
  pub before : total (take s.index ls) + s.within ≡ c

-- in the first
stands_first : (l : ℕ) (ls : List ℕ) (c : ℕ) → c ≤ l → Stands (l ∷ ls) c (record { index = 0; within = c })
stands_first l ls c le = record { inside = omega arith; some_left = le; before = omega arith }

-- in a later one
stands_on : (l : ℕ) (ls : List ℕ) (c : ℕ) (s : Stand) → l ≤ c → Stands ls (c - l) s → Stands (l ∷ ls) c (one_on s)
stands_on l ls c s le k = record { inside = omega (arith, k.inside); some_left = k.some_left; before = omega (arith, k.before, le) }

pub stands : (l : ℕ) (ls : List ℕ) (c : ℕ) → c ≤ total (l ∷ ls) → Stands (l ∷ ls) c (stand (l ∷ ls) c)
stands l [] c le = stands_first l [] c (omega (arith, le))
stands l (m ∷ ls) c le = by_test (nat_lt c l) refl (stands m ls (c - l))
  where
    by_test : (b : Bool) → nat_lt c l ≡ b → (c - l ≤ total (m ∷ ls) → Stands (m ∷ ls) (c - l) (stand (m ∷ ls) (c - l))) → Stands (l ∷ m ∷ ls) c (if b then record { index = 0; within = c } else one_on (stand (m ∷ ls) (c - l)))
    by_test true less rest = stands_first l (m ∷ ls) c (omega (arith, ltb-true c l less))
    by_test false more rest =
        let past : l ≤ c = ltb-false c l more in
        stands_on l (m ∷ ls) c (stand (m ∷ ls) (c - l)) past (rest (omega (arith, le)))

-- the residual there gives the bytes back
pub read_back : (l : ℕ) (ls : List ℕ) (c : ℕ) → c ≤ total (l ∷ ls) → read_off (l ∷ ls) (stand (l ∷ ls) c).index (residual (l ∷ ls) c) ≡ c
read_back l ls c le = let k = stands l ls c le in omega (arith, k.some_left, k.before)

-- from one place on to another
abbrev pub moved_on : Stand → Stand → Stand
moved_on s t = record { index = s.index + t.index; within = t.within }

moved_none : (c : ℕ) (t : Stand) → moved_on (record { index = 0; within = c }) t ≡ t
moved_none c t = ap (λ i. record { index = i; within = t.within }) (zero-add t.index)

moved_one : (s t : Stand) → moved_on (one_on s) t ≡ one_on (moved_on s t)
moved_one s t = ap (λ i. record { index = i; within = t.within }) (let more : suc s.index + t.index ≡ suc (s.index + t.index) = omega arith in more)

-- the controller sees the TRBs from there on: what moves more moves as from the beginning
pub walks : (l : ℕ) (ls : List ℕ) (c k : ℕ) → moved_on (stand (l ∷ ls) c) (stand (drop (stand (l ∷ ls) c).index (l ∷ ls)) ((stand (l ∷ ls) c).within + k)) ≡ stand (l ∷ ls) (c + k)
walks l [] c k = refl
walks l (m ∷ ls) c k = by_test (nat_lt c l) refl (walks m ls (c - l) k)
  where
    Told : Stand → Type 0
    Told s = moved_on s (stand (drop s.index (l ∷ m ∷ ls)) (s.within + k)) ≡ stand (l ∷ m ∷ ls) (c + k)

    Rest : Type 0
    Rest = moved_on (stand (m ∷ ls) (c - l)) (stand (drop (stand (m ∷ ls) (c - l)).index (m ∷ ls)) ((stand (m ∷ ls) (c - l)).within + k)) ≡ stand (m ∷ ls) (c - l + k)

    by_test : (b : Bool) → nat_lt c l ≡ b → Rest → Told (if b then record { index = 0; within = c } else one_on (stand (m ∷ ls) (c - l)))
    by_test true less rest = moved_none c (stand (l ∷ m ∷ ls) (c + k))
    by_test false more rest =
        let past : l ≤ c = ltb-false c l more in
        let s : Stand = stand (m ∷ ls) (c - l) in
        let later : nat_lt (c + k) l ≡ false = le-ltb (c + k) l (omega (arith, past)) in
        let same : c - l + k ≡ c + k - l = omega (arith, past) in
        let on : one_on (moved_on s (stand (drop s.index (m ∷ ls)) (s.within + k))) ≡ (if nat_lt (c + k) l then record { index = 0; within = c + k } else one_on (stand (m ∷ ls) (c + k - l))) =
        rw later (ap one_on (rest ∙ ap (stand (m ∷ ls)) same)) in
        moved_one s (stand (drop s.index (m ∷ ls)) (s.within + k)) ∙ on

-- of any TRBs
pub stands_some : (ls : List ℕ) (c : ℕ) → 0 < length ls → c ≤ total ls → Stands ls c (stand ls c)
stands_some [] c some le = absurd (omega (arith, some))
stands_some (l ∷ ls) c some le = stands l ls c le
