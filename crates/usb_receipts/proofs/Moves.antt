-- Each step keeps the rule of the log.
use Rattle.std.proofs.Common.{◌≡◌, ◌≢◌, ◌==◌, ℕ, zero, suc, ◌+◌, ◌<◌, ◌≤◌, List, [], ◌∷◌, ◌++◌, length, set, Some, Bool, true, false, cond, refl, sym, ap, ◌∙◌, subst, ⊎_elim, arith, append_assoc, length-append, true≢false}
use Rattle.std.specs.Prelude.{slice_get, slice_set, if◌then◌else◌}
use Rattle.std.specs.List.{filter}
use Rattle.std.proofs.lemmas.Bool.Decides.{nat_tests}
use Rattle.std.proofs.lemmas.List.Elements.{filter-append}
use Rattle.std.proofs.lemmas.Option.{slice_get_within}
use mathlib.Core.Option.{some, none, some-ne-none, some-injective, Option as Maybe}
use mathlib.Core.Logic.{dite}
use native.Mathlib.Decide.{ℕ_discrete}
use lib.ListN.{get_elem?}
use Rattle.atomic_table.proofs.Lists.{at_set, at_snoc, set_again}
use Rattle.usb_receipts.specs.declared.rule.Known.{Known}
use Rattle.usb_receipts.specs.Rule.{Slot, keeper, opener, bearer, claimed, Stand, BeginsWith, total, moved, appended, cut, bare, numbered, settled, taken_in, owned, past_of, seen_for, AllBegin, StoodAt, Stood, AllGiven, Fits, Rules, Checked}

-- how much one claim counts at place p
abbrev unit : ℕ → ℕ → ℕ
unit c p = if c == p then 1 else 0

-- a claim to another place counts nothing
off : (c p : ℕ) → c ≢ p → unit c p ≡ 0
off c p ne = grind (arith, nat_tests)

-- a claim counts one at most
unit_small : (b : Bool) → cond {A = ℕ} b 1 0 ≤ 1
unit_small true = omega arith
unit_small false = omega arith

-- a token that doesn't keep keeps nothing
no_keeper : false ≡ true → ⊥
no_keeper e = true≢false (sym e)

-- claims to a place, of two lists
pub claimed-append : {A : Type 0} (p : ℕ) (xs ys : List (ℕ × A)) → claimed p (xs ++ ys) ≡ claimed p xs + claimed p ys
claimed-append p [] ys = omega arith
claimed-append p (x ∷ xs) ys = let r = claimed-append p xs ys in omega arith

module _ {E : Type 0} where
  -- sums over the views

  -- where one view is replaced
  pub total_set : (f : Known E → ℕ) (views : List (Known E)) (port : ℕ) (v w : Known E) → get_elem? views port ≡ some v → total f (set views port w) + f v ≡ total f views + f w
  total_set f [] port v w at = absurd (some-ne-none v (sym at))
  total_set f (x ∷ xs) zero v w at = let e : f x ≡ f v = ap f (some-injective x v at) in omega arith
  total_set f (x ∷ xs) (suc port) v w at = let r = total_set f xs port v w at in omega arith

  -- where one view is added
  pub total_snoc : (f : Known E → ℕ) (views : List (Known E)) (w : Known E) → total f (views ++ w ∷ []) ≡ total f views + f w
  total_snoc f [] w = omega arith
  total_snoc f (x ∷ xs) w = let r = total_snoc f xs w in omega arith

  -- of nothing each
  pub total_zero : (f : Known E → ℕ) (views : List (Known E)) → ((by : ℕ) (v : Known E) → get_elem? views by ≡ some v → f v ≡ 0) → total f views ≡ 0
  total_zero f [] all = refl
  total_zero f (x ∷ xs) all = let h = all 0 x refl in let r = total_zero f xs (λ by v e. all (suc by) v e) in omega arith

  -- a sum is no less than its part
  pub total_part : (f : Known E → ℕ) (views : List (Known E)) (by : ℕ) (v : Known E) → get_elem? views by ≡ some v → f v ≤ total f views
  total_part f [] by v at = absurd (some-ne-none v (sym at))
  total_part f (x ∷ xs) zero v at = let e : f x ≡ f v = ap f (some-injective x v at) in omega arith
  total_part f (x ∷ xs) (suc by) v at = let r = total_part f xs by v at in omega arith

  -- two parts of a sum are no more than it
  total_two : (f : Known E → ℕ) (views : List (Known E)) (i j : ℕ) (v u : Known E) → i ≢ j → get_elem? views i ≡ some v → get_elem? views j ≡ some u → f v + f u ≤ total f views
  total_two f [] i j v u ne at there = absurd (some-ne-none v (sym at))
  total_two f (x ∷ xs) zero zero v u ne at there = absurd (ne refl)
  total_two f (x ∷ xs) zero (suc j) v u ne at there = let e : f x ≡ f v = ap f (some-injective x v at) in let r = total_part f xs j u there in omega arith
  total_two f (x ∷ xs) (suc i) zero v u ne at there = let e : f x ≡ f u = ap f (some-injective x u there) in let r = total_part f xs i v at in omega arith
  total_two f (x ∷ xs) (suc i) (suc j) v u ne at there = let r = total_two f xs i j v u (λ e. ne (ap suc e)) at there in omega arith

  -- claims

  -- what stands at a place still stands there in a longer list
  get_front : (xs ys : List E) (k : ℕ) (x : E) → slice_get xs k ≡ Some x → slice_get (xs ++ ys) k ≡ Some x
  get_front [] ys k x e = absurd (cc)
  get_front (y ∷ xs) ys zero x e = e
  get_front (y ∷ xs) ys (suc k) x e = get_front xs ys k x e

  -- the last entry stands at the place that is the length before it
  get_end : (xs : List E) (x : E) → slice_get (xs ++ x ∷ []) (length xs) ≡ Some x
  get_end [] x = refl
  get_end (y ∷ xs) x = get_end xs x

  -- claims go on saying what stands there when the list grows
  pub stand_more : (entries : List E) (x : E) (cs : List (ℕ × E)) → Stand entries cs → Stand (entries ++ x ∷ []) cs
  stand_more entries x [] s = tt
  stand_more entries x (c ∷ cs) s = (get_front entries (x ∷ []) c.0 c.1 s.0, stand_more entries x cs s.1)

  -- two lists of claims that stand are one that does
  pub stand_append : (entries : List E) (xs ys : List (ℕ × E)) → Stand entries xs → Stand entries ys → Stand entries (xs ++ ys)
  stand_append entries [] ys s t = t
  stand_append entries (c ∷ cs) ys s t = (s.0, stand_append entries cs ys s.1 t)

  -- nobody claims a place behind the list
  pub claimed_fresh : (entries : List E) (p : ℕ) (cs : List (ℕ × E)) → Stand entries cs → length entries ≤ p → claimed p cs ≡ 0
  claimed_fresh entries p [] s le = refl
  claimed_fresh entries p (c ∷ cs) s le =
      let within : c.0 < length entries = slice_get_within entries c.0 c.1 s.0 in
      let here : unit c.0 p ≡ 0 = off c.0 p (λ e. omega arith) in
      let r = claimed_fresh entries p cs s.1 le in
      omega arith

  -- positions

  -- moved positions have the same numbers
  claimed_moved : (n : ℕ) (entries : List E) (ps : List (ℕ × List E)) → claimed n (moved entries ps) ≡ claimed n ps
  claimed_moved n entries [] = refl
  claimed_moved n entries (p ∷ ps) = let r = claimed_moved n entries ps in omega arith

  -- what a list begins with, a longer one does
  begins_more : (seen entries more : List E) → BeginsWith seen entries → BeginsWith seen (entries ++ more)
  begins_more seen entries more b = (b.0 ++ more, ap (λ l. l ++ more) b.1 ∙ append_assoc seen b.0 more)

  append_none : (xs : List E) → xs ≡ xs ++ []
  append_none [] = refl
  append_none (x ∷ xs) = ap (λ l. x ∷ l) (append_none xs)

  -- and it begins with itself
  begins_whole : (entries : List E) → BeginsWith entries entries
  begins_whole entries = ([], append_none entries)

  -- what a list began with, it goes on beginning with
  all_begin_more : (entries : List E) (x : E) (ps : List (List E)) → AllBegin entries ps → AllBegin (entries ++ x ∷ []) ps
  all_begin_more entries x [] b = tt
  all_begin_more entries x (p ∷ ps) b = (begins_more p entries (x ∷ []) b.0, all_begin_more entries x ps b.1)

  all_begin_append : (entries : List E) (ps qs : List (List E)) → AllBegin entries ps → AllBegin entries qs → AllBegin entries (ps ++ qs)
  all_begin_append entries [] qs a b = b
  all_begin_append entries (p ∷ ps) qs a b = (a.0, all_begin_append entries ps qs a.1 b)

  -- what a list begins with each of, it begins with the first of
  pub all_begin_first : (entries : List E) (ps qs : List (List E)) → AllBegin entries (ps ++ qs) → AllBegin entries ps
  all_begin_first entries [] qs a = tt
  all_begin_first entries (p ∷ ps) qs a = (a.0, all_begin_first entries ps qs a.1)

module _ {E : Type 0} (of : E → ℕ) where
  -- what positions saw, the list begins with
  stood_begin : (entries : List E) (next : ℕ) (ps : List (ℕ × List E)) → Stood of entries next ps → AllBegin entries (seen_for ps)
  stood_begin entries next [] s = tt
  stood_begin entries next (p ∷ ps) s = (s.0.begins, stood_begin entries next ps s.1)

  -- an entry of another number isn't among a number's own
  not_owned : (n : ℕ) (x : E) → of x ≢ n → owned of n (x ∷ []) ≡ []
  not_owned n x ne = let e : (of x == n) ≡ false = grind (arith, nat_tests) in ap (λ b. cond b (x ∷ []) []) e

  owned_other : (n : ℕ) (entries : List E) (x : E) → of x ≢ n → owned of n (entries ++ x ∷ []) ≡ owned of n entries
  owned_other n entries x ne = filter-append _ entries (x ∷ []) ∙ ap (λ l. owned of n entries ++ l) (not_owned n x ne) ∙ sym (append_none (owned of n entries))

  -- a number that wasn't given has none
  pub owned_fresh : (n next : ℕ) (entries : List E) → AllGiven of next entries → next ≤ n → owned of n entries ≡ []
  owned_fresh n next [] all le = refl
  owned_fresh n next (x ∷ xs) all le =
      let below = all.0 in
      let e : (of x == n) ≡ false = grind (arith, nat_tests) in
      ap (λ b. cond b (x ∷ owned of n xs) (owned of n xs)) e ∙ owned_fresh n next xs all.1 le

  given_more : (next : ℕ) (entries : List E) (x : E) → AllGiven of next entries → of x < next → AllGiven of next (entries ++ x ∷ [])
  given_more next [] x all lt = (lt, tt)
  given_more next (y ∷ ys) x all lt = (all.0, given_more next ys x all.1 lt)

  given_next : (next : ℕ) (entries : List E) → AllGiven of next entries → AllGiven of (suc next) entries
  given_next next [] all = tt
  given_next next (y ∷ ys) all = let a = all.0 in (omega arith, given_next next ys all.1)

  -- positions go on where an entry of no number of theirs is put behind the list
  stood_more : (entries : List E) (next : ℕ) (x : E) (ps : List (ℕ × List E)) → claimed (of x) ps ≡ 0 → Stood of entries next ps → Stood of (entries ++ x ∷ []) next ps
  stood_more entries next x [] zero_is s = tt
  stood_more entries next x (p ∷ ps) zero_is s =
      let apart : of x ≢ p.0 = λ e. let u : unit p.0 (of x) ≡ 1 = grind (arith, nat_tests) in omega arith in
      let rest : claimed (of x) ps ≡ 0 = omega arith in (
        record { given = s.0.given; begins = begins_more p.1 entries (x ∷ []) s.0.begins; own = owned_other p.0 entries x apart ∙ s.0.own },
        stood_more entries next x ps rest s.1,
      )

  -- they stand at the end of any list
  stood_moved : (entries longer : List E) (next : ℕ) (ps : List (ℕ × List E)) → Stood of entries next ps → Stood of longer next (moved longer ps)
  stood_moved entries longer next [] s = tt
  stood_moved entries longer next (p ∷ ps) s = (record { given = s.0.given; begins = begins_whole longer; own = refl }, stood_moved entries longer next ps s.1)

  stood_append : (entries : List E) (next : ℕ) (ps qs : List (ℕ × List E)) → Stood of entries next ps → Stood of entries next qs → Stood of entries next (ps ++ qs)
  stood_append entries next [] qs s t = t
  stood_append entries next (p ∷ ps) qs s t = (s.0, stood_append entries next ps qs s.1 t)

  stood_next : (entries : List E) (next : ℕ) (ps : List (ℕ × List E)) → Stood of entries next ps → Stood of entries (suc next) ps
  stood_next entries next [] s = tt
  stood_next entries next (p ∷ ps) s = let g = s.0.given in (record { given = omega arith; begins = s.0.begins; own = s.0.own }, stood_next entries next ps s.1)

  -- nobody has a number that wasn't given
  stood_fresh : (entries : List E) (next n : ℕ) (ps : List (ℕ × List E)) → Stood of entries next ps → next ≤ n → claimed n ps ≡ 0
  stood_fresh entries next n [] s le = refl
  stood_fresh entries next n (p ∷ ps) s le =
      let g = s.0.given in
      let here : unit p.0 n ≡ 0 = off p.0 n (λ e. omega arith) in
      let r = stood_fresh entries next n ps s.1 le in
      omega arith

  -- views

  -- where one view is replaced by one that fits
  fits_set : (seat next : ℕ) (entries : List E) (homes : List (Maybe (Slot E))) (views : List (Known E)) (by : ℕ) (w : Known E)
      → ((j : ℕ) (u : Known E) → j ≢ by → get_elem? views j ≡ some u → Fits of seat next entries homes j u) → Fits of seat next entries homes by w
      → (j : ℕ) (u : Known E) → get_elem? (set views by w) j ≡ some u → Fits of seat next entries homes j u
  fits_set seat next entries homes views by w others mine j u e =
      ⊎_elim
      (λ (x : (j ≡ by) × (w ≡ u)). subst (λ (y : ℕ × Known E). Fits of seat next entries homes y.0 y.1) (λ i. (sym x.0 i, x.1 i)) mine)
      (λ (x : (j ≢ by) × (get_elem? views j ≡ some u)). others j u x.0 x.1)
      (at_set views by j w u e)

  -- where one view that fits is added
  fits_snoc : (seat next : ℕ) (entries : List E) (homes : List (Maybe (Slot E))) (views : List (Known E)) (w : Known E)
      → ((j : ℕ) (u : Known E) → get_elem? views j ≡ some u → Fits of seat next entries homes j u) → ((j : ℕ) → Fits of seat next entries homes j w)
      → (j : ℕ) (u : Known E) → get_elem? (views ++ w ∷ []) j ≡ some u → Fits of seat next entries homes j u
  fits_snoc seat next entries homes views w others new j u e = ⊎_elim (λ was. others j u was) (λ (same : w ≡ u). subst (Fits of seat next entries homes j) same (new j)) (at_snoc views w u j e)

  -- a token with claims and positions that stand fits
  bears : (seat next : ℕ) (entries : List E) (homes : List (Maybe (Slot E))) (claims : List (ℕ × E)) (positions : List (ℕ × List E)) → Stand entries claims → Stood of entries next positions → (j : ℕ) → Fits of seat next entries homes j (bearer claims positions)
  bears seat next entries homes claims positions s t j = record { whole = λ k. absurd (no_keeper k); home = λ k. absurd (no_keeper k); claims = s; positions = t; pasts = tt }

  -- the moves

  -- the empty list, with one keeper, and the slot in the table
  pub begins : (x : Slot E) → Rules of (some x ∷ []) (opener ∷ [])
  begins x = record { seat = 0; next = 0; entries = []; fits = first; claims = λ p. omega arith; numbers = λ n. omega arith; given = tt }
    where
      first : (by : ℕ) (v : Known E) → get_elem? (opener ∷ []) by ≡ some v → Fits of 0 0 [] (some x ∷ []) by v
      first zero v e = subst (Fits of 0 0 [] (some x ∷ []) 0) (some-injective _ _ e) (record { whole = λ _. (refl, refl, refl); home = λ _. (refl, x, refl); claims = tt; positions = tt; pasts = tt })
      first (suc by) v e = absurd (some-ne-none v (sym e))

  -- the first token takes the slot
  pub slotted : (homes : List (Maybe (Slot E))) (views : List (Known E)) (by : ℕ) → Rules of homes views → get_elem? views by ≡ some opener
      → (x : Slot E) × (get_elem? homes 0 ≡ some (some x)) × Rules of (slice_set homes 0 none) (set views by (keeper [] 0))
  slotted homes views by h at =
      let mine = h.fits by opener at in
      let there = mine.home refl in
      let whole = mine.whole refl in
      let after = slice_set homes 0 none in (
        there.1,
        there.2,
        record {
          seat = h.seat;
          next = h.next;
          entries = h.entries;
          fits = fits_set h.seat h.next h.entries after views by (keeper [] 0)
              (λ j u apart e.
              let f = h.fits j u e in
              record { whole = f.whole; home = λ k. absurd (apart ((f.home k).0 ∙ sym there.0)); claims = f.claims; positions = f.positions; pasts = f.pasts })
              (record { whole = λ _. (there.0, whole.1, whole.2); home = λ k. absurd (no_keeper k); claims = tt; positions = tt; pasts = tt });
          claims = λ p.
              let moved = total_set (λ u. claimed p u.claims) views by opener (keeper [] 0) at in
              let bound = h.claims p in
              omega arith;
          numbers = λ n.
              let moved = total_set (λ u. claimed n u.positions) views by opener (keeper [] 0) at in
              let bound = h.numbers n in
              omega arith;
          given = h.given;
        },
      )

  -- the keeper, who has its bearer's position alone, puts an entry behind the list
  pub appends : (homes : List (Maybe (Slot E))) (views : List (Known E)) (by : ℕ) (v : Known E) (x : E) (seen : List E) → v.keeps ≡ true → v.positions ≡ (of x, seen) ∷ [] → Rules of homes views → get_elem? views by ≡ some v
      → Rules of homes (set views by (appended v x))
  appends homes views by v x seen keeps position h at =
      let mine = h.fits by v at in
      let seat : by ≡ h.seat = (mine.whole keeps).0 in
      let same : v.entries ≡ h.entries = (mine.whole keeps).1 in
      let count : v.next ≡ h.next = (mine.whole keeps).2 in
      let entries = h.entries ++ x ∷ [] in
      let longer : v.entries ++ x ∷ [] ≡ entries = ap (λ l. l ++ x ∷ []) same in
      let stood : Stood of h.entries h.next v.positions = mine.positions in
      let known : StoodAt of h.entries h.next (of x, seen) × Unit {0} = subst (Stood of h.entries h.next) position stood in
      let one : claimed (of x) v.positions ≡ 1 = ap (claimed (of x)) position ∙ (let u : unit (of x) (of x) ≡ 1 = grind (arith, nat_tests) in omega arith) in record {
        seat = h.seat;
        next = h.next;
        entries = entries;
        fits = fits_set h.seat h.next entries homes views by (appended v x)
            (λ j u apart e.
            let f = h.fits j u e in
            let two = total_two (λ w. claimed (of x) w.positions) views by j v u (λ same. apart (sym same)) at e in
            let bound = h.numbers (of x) in
            let none : claimed (of x) u.positions ≡ 0 = omega arith in
            record { whole = λ k. absurd (apart ((f.whole k).0 ∙ sym seat)); home = f.home; claims = stand_more h.entries x u.claims f.claims; positions = stood_more h.entries h.next x u.positions none f.positions; pasts = all_begin_more h.entries x u.pasts f.pasts })
            (record {
              whole = λ _. (seat, longer, count);
              home = mine.home;
              claims = stand_append entries v.claims ((length v.entries, x) ∷ []) (stand_more h.entries x v.claims mine.claims) (ap (λ l. slice_get entries (length l)) same ∙ get_end h.entries x, tt);
              positions = subst (λ l. Stood of entries h.next (moved l v.positions)) (sym longer) (stood_moved h.entries entries h.next v.positions stood);
              pasts = all_begin_more h.entries x v.pasts mine.pasts;
            });
        claims = λ p.
            let moved = total_set (λ u. claimed p u.claims) views by v (appended v x) at in
            let more = claimed-append p v.claims ((length v.entries, x) ∷ []) in
            let bound = h.claims p in
            dite (ℕ_discrete (length v.entries) p)
            (λ e.
            let none : total (λ u. claimed p u.claims) views ≡ 0 = total_zero (λ u. claimed p u.claims) views (λ j u g. claimed_fresh h.entries p u.claims (h.fits j u g).claims (let l = ap length same in omega arith)) in
            let b = unit_small (length v.entries == p) in
            omega arith)
            (λ ne. let z = off (length v.entries) p ne in omega arith);
        numbers = λ n.
            let moved = total_set (λ u. claimed n u.positions) views by v (appended v x) at in
            let same = claimed_moved n (v.entries ++ x ∷ []) v.positions in
            let bound = h.numbers n in
            omega arith;
        given = given_more h.next h.entries x h.given known.0.given;
      }

  -- claims go to a token of their own
  pub cuts : (homes : List (Maybe (Slot E))) (views : List (Known E)) (by : ℕ) (v : Known E) → Rules of homes views → get_elem? views by ≡ some v → Rules of homes (set views by (cut v) ++ bearer v.claims [] ∷ [])
  cuts homes views by v h at =
      let mine = h.fits by v at in record {
        seat = h.seat;
        next = h.next;
        entries = h.entries;
        fits = fits_snoc h.seat h.next h.entries homes (set views by (cut v)) (bearer v.claims [])
            (fits_set h.seat h.next h.entries homes views by (cut v) (λ j u apart e. h.fits j u e) (record { whole = mine.whole; home = mine.home; claims = tt; positions = mine.positions; pasts = mine.pasts }))
            (bears h.seat h.next h.entries homes v.claims [] mine.claims tt);
        claims = λ p.
            let moved = total_set (λ u. claimed p u.claims) views by v (cut v) at in
            let more = total_snoc (λ u. claimed p u.claims) (set views by (cut v)) (bearer v.claims []) in
            let bound = h.claims p in
            omega arith;
        numbers = λ n.
            let moved = total_set (λ u. claimed n u.positions) views by v (cut v) at in
            let more = total_snoc (λ u. claimed n u.positions) (set views by (cut v)) (bearer v.claims []) in
            let bound = h.numbers n in
            omega arith;
        given = h.given;
      }

  -- positions go to a token of their own
  pub parts : (homes : List (Maybe (Slot E))) (views : List (Known E)) (by : ℕ) (v : Known E) → Rules of homes views → get_elem? views by ≡ some v → Rules of homes (set views by (bare v) ++ bearer [] v.positions ∷ [])
  parts homes views by v h at =
      let mine = h.fits by v at in record {
        seat = h.seat;
        next = h.next;
        entries = h.entries;
        fits = fits_snoc h.seat h.next h.entries homes (set views by (bare v)) (bearer [] v.positions)
            (fits_set h.seat h.next h.entries homes views by (bare v) (λ j u apart e. h.fits j u e) (record { whole = mine.whole; home = mine.home; claims = mine.claims; positions = tt; pasts = mine.pasts }))
            (bears h.seat h.next h.entries homes [] v.positions tt mine.positions);
        claims = λ p.
            let moved = total_set (λ u. claimed p u.claims) views by v (bare v) at in
            let more = total_snoc (λ u. claimed p u.claims) (set views by (bare v)) (bearer [] v.positions) in
            let bound = h.claims p in
            omega arith;
        numbers = λ n.
            let moved = total_set (λ u. claimed n u.positions) views by v (bare v) at in
            let more = total_snoc (λ u. claimed n u.positions) (set views by (bare v)) (bearer [] v.positions) in
            let bound = h.numbers n in
            omega arith;
        given = h.given;
      }

  -- one more number is given, with a position at the end
  pub gives : (homes : List (Maybe (Slot E))) (views : List (Known E)) (by : ℕ) (v : Known E) → v.keeps ≡ true → Rules of homes views → get_elem? views by ≡ some v
      → Rules of homes (set views by (numbered v) ++ bearer [] ((v.next, v.entries) ∷ []) ∷ [])
  gives homes views by v keeps h at =
      let mine = h.fits by v at in
      let seat : by ≡ h.seat = (mine.whole keeps).0 in
      let same : v.entries ≡ h.entries = (mine.whole keeps).1 in
      let count : v.next ≡ h.next = (mine.whole keeps).2 in
      let new = bearer [] ((v.next, v.entries) ∷ []) in
      let later = suc h.next in record {
        seat = h.seat;
        next = later;
        entries = h.entries;
        fits = fits_snoc h.seat later h.entries homes (set views by (numbered v)) new
            (fits_set h.seat later h.entries homes views by (numbered v)
            (λ j u apart e.
            let f = h.fits j u e in
            record { whole = λ k. absurd (apart ((f.whole k).0 ∙ sym seat)); home = f.home; claims = f.claims; positions = stood_next h.entries h.next u.positions f.positions; pasts = f.pasts })
            (record { whole = λ _. (seat, same, ap suc count); home = mine.home; claims = mine.claims; positions = stood_next h.entries h.next v.positions mine.positions; pasts = mine.pasts }))
            (bears h.seat later h.entries homes [] ((v.next, v.entries) ∷ []) tt
            (record { given = omega arith; begins = subst (λ l. BeginsWith l h.entries) (sym same) (begins_whole h.entries); own = ap (owned of v.next) (sym same) }, tt));
        claims = λ p.
            let moved = total_set (λ u. claimed p u.claims) views by v (numbered v) at in
            let more = total_snoc (λ u. claimed p u.claims) (set views by (numbered v)) new in
            let bound = h.claims p in
            omega arith;
        numbers = λ n.
            let moved = total_set (λ u. claimed n u.positions) views by v (numbered v) at in
            let more = total_snoc (λ u. claimed n u.positions) (set views by (numbered v)) new in
            let bound = h.numbers n in
            dite (ℕ_discrete v.next n)
            (λ e.
            let none : total (λ u. claimed n u.positions) views ≡ 0 = total_zero (λ u. claimed n u.positions) views (λ j u g. stood_fresh h.entries h.next n u.positions (h.fits j u g).positions (omega arith)) in
            let b = unit_small (v.next == n) in
            omega arith)
            (λ ne. let z = off v.next n ne in omega arith);
        given = given_next h.next h.entries h.given;
      }

  -- what was seen for positions goes to a token of its own too
  pub remembers : (homes : List (Maybe (Slot E))) (views : List (Known E)) (by : ℕ) (v : Known E) → Rules of homes views → get_elem? views by ≡ some v → Rules of homes (set views by v ++ past_of (seen_for v.positions) ∷ [])
  remembers homes views by v h at =
      let mine = h.fits by v at in
      let new = past_of (seen_for v.positions) in record {
        seat = h.seat;
        next = h.next;
        entries = h.entries;
        fits = fits_snoc h.seat h.next h.entries homes (set views by v) new
            (fits_set h.seat h.next h.entries homes views by v (λ j u apart e. h.fits j u e) mine)
            (λ j. record { whole = λ k. absurd (no_keeper k); home = λ k. absurd (no_keeper k); claims = tt; positions = tt; pasts = stood_begin h.entries h.next v.positions mine.positions });
        claims = λ p.
            let moved = total_set (λ u. claimed p u.claims) views by v v at in
            let more = total_snoc (λ u. claimed p u.claims) (set views by v) new in
            let bound = h.claims p in
            omega arith;
        numbers = λ n.
            let moved = total_set (λ u. claimed n u.positions) views by v v at in
            let more = total_snoc (λ u. claimed n u.positions) (set views by v) new in
            let bound = h.numbers n in
            omega arith;
        given = h.given;
      }

  -- a token takes in what another knows
  pub takes : (homes : List (Maybe (Slot E))) (views : List (Known E)) (by : ℕ) (v : Known E) (other : ℕ) (w : Known E) → Rules of homes views → get_elem? views by ≡ some v → (other ≡ by → ⊥) → get_elem? (set views by (taken_in v w)) other ≡ some w
      → Rules of homes (set (set views by (taken_in v w)) other (bearer [] []))
  takes homes views by v other w h at apart there =
      let mine = h.fits by v at in
      let both = taken_in v w in
      let theirs : Fits of h.seat h.next h.entries homes other w = ⊎_elim (λ (t : (other ≡ by) × (both ≡ w)). absurd (apart t.0)) (λ (t : (other ≢ by) × (get_elem? views other ≡ some w)). h.fits other w t.1) (at_set views by other both w there) in record {
        seat = h.seat;
        next = h.next;
        entries = h.entries;
        fits = fits_set h.seat h.next h.entries homes (set views by both) other (bearer [] [])
            (λ j u _ e. fits_set h.seat h.next h.entries homes views by both (λ i y _ e'. h.fits i y e')
            (record {
              whole = mine.whole;
              home = mine.home;
              claims = stand_append h.entries v.claims w.claims mine.claims theirs.claims;
              positions = stood_append h.entries h.next v.positions w.positions mine.positions theirs.positions;
              pasts = all_begin_append h.entries w.pasts v.pasts theirs.pasts mine.pasts;
            }) j u e)
            (bears h.seat h.next h.entries homes [] [] tt tt other);
        claims = λ p.
            let first = total_set (λ u. claimed p u.claims) views by v both at in
            let second = total_set (λ u. claimed p u.claims) (set views by both) other w (bearer [] []) there in
            let more = claimed-append p v.claims w.claims in
            let bound = h.claims p in
            omega arith;
        numbers = λ n.
            let first = total_set (λ u. claimed n u.positions) views by v both at in
            let second = total_set (λ u. claimed n u.positions) (set views by both) other w (bearer [] []) there in
            let more = claimed-append n v.positions w.positions in
            let bound = h.numbers n in
            omega arith;
        given = h.given;
      }

  -- the keeper's positions go to the end
  pub settles : (homes : List (Maybe (Slot E))) (views : List (Known E)) (by : ℕ) (v : Known E) → v.keeps ≡ true → Rules of homes views → get_elem? views by ≡ some v → Rules of homes (set views by (settled v))
  settles homes views by v keeps h at =
      let mine = h.fits by v at in
      let same : v.entries ≡ h.entries = (mine.whole keeps).1 in record {
        seat = h.seat;
        next = h.next;
        entries = h.entries;
        fits = fits_set h.seat h.next h.entries homes views by (settled v) (λ j u apart e. h.fits j u e)
            (record {
              whole = mine.whole;
              home = mine.home;
              claims = mine.claims;
              positions = subst (λ l. Stood of h.entries h.next (moved l v.positions)) (sym same) (stood_moved h.entries h.entries h.next v.positions mine.positions);
              pasts = mine.pasts;
            });
        claims = λ p.
            let moved = total_set (λ u. claimed p u.claims) views by v (settled v) at in
            let bound = h.claims p in
            omega arith;
        numbers = λ n.
            let moved = total_set (λ u. claimed n u.positions) views by v (settled v) at in
            let same = claimed_moved n v.entries v.positions in
            let bound = h.numbers n in
            omega arith;
        given = h.given;
      }

  -- what the keeper learns by comparing
  pub checks : (homes : List (Maybe (Slot E))) (views : List (Known E)) (by : ℕ) (v : Known E) → v.keeps ≡ true → Rules of homes views → get_elem? views by ≡ some v → Checked of v
  checks homes views by v keeps h at =
      let mine = h.fits by v at in
      let same : v.entries ≡ h.entries = (mine.whole keeps).1 in
      let count : v.next ≡ h.next = (mine.whole keeps).2 in record {
        claims = subst (λ entries. Stand entries v.claims) (sym same) mine.claims;
        apart = λ p. let part = total_part (λ u. claimed p u.claims) views by v at in let bound = h.claims p in omega arith;
        positions = subst (λ entries. Stood of entries v.next v.positions) (sym same) (subst (λ next. Stood of h.entries next v.positions) (sym count) mine.positions);
        pasts = subst (λ entries. AllBegin entries v.pasts) (sym same) mine.pasts;
        numbers = λ n. let part = total_part (λ u. claimed n u.positions) views by v at in let bound = h.numbers n in omega arith;
        given = subst (λ entries. AllGiven of v.next entries) (sym same) (subst (λ next. AllGiven of next h.entries) (sym count) h.given);
      }
