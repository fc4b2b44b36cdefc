-- Where a line's packets stand behind those of the entry of its endpoint, or the line is the last entry of one that had none, of no
-- endpoint are there two, and the line's packets stand behind what was expected there.
use Rattle.std.proofs.Common.{◌≡◌, ℕ, zero, suc, ◌+◌, ◌<◌, ◌≤◌, ◌==◌, Bool, true, false, cond, not, eqb, List, [], ◌∷◌, ◌++◌, length, get_or, set, Some, None, position, refl, ap, ap₂, sym, ◌∙◌, append_assoc, append-nil, ⊎_elim, eq-eqb, eqb-true, ne_eqb, ltb-false, arith}
use Rattle.std.specs.Prelude.{◌&&◌, if◌then◌else◌, nat_lt}
use Rattle.std.specs.List.{AllByRecursion, IsDistinct, position_or_len}
use Rattle.std.proofs.lemmas.Bool.{and_parts, cases_eq}
use Rattle.trace_scenario.specs.declared.expectations.ExpectedPackets.{ExpectedPackets}
use Rattle.usb_scripttext.specs.declared.expected_packet.ExpectedPacket.{ExpectedPacket}
use Rattle.trace_judged.specs.Expected.{expected_at, expected_by}
use Rattle.trace_judged.specs.Gathered.{HasEndpointsOnce, is_of}

-- an entry with more packets behind its own
abbrev pub and_more : ExpectedPackets → List ExpectedPacket → ExpectedPackets
and_more entry more = record entry { packets = entry.packets ++ more }

-- none of some is of an endpoint
abbrev IsApart : ℕ → ℕ → List ExpectedPackets → Type 0
IsApart dev ep entries = AllByRecursion (λ entry. is_of dev ep entry ≡ false) entries

-- they expect nothing there
nothing_apart : (dev ep : ℕ) (entries : List ExpectedPackets) → IsApart dev ep entries → expected_at entries dev ep ≡ []
nothing_apart dev ep [] apart = refl
nothing_apart dev ep (entry ∷ entries) apart =
    ap (λ b. (if b then entry.packets else []) ++ expected_at entries dev ep) apart.0 ∙ nothing_apart dev ep entries apart.1

-- two lines of one endpoint are of the same endpoints
of_the_same : (dev ep : ℕ) (line entry : ExpectedPackets) → is_of line.dev line.ep entry ≡ true → is_of dev ep line ≡ is_of dev ep entry
of_the_same dev ep line entry same =
    let parts = and_parts (entry.dev == line.dev) (entry.ep == line.ep) same in
    ap₂ (λ (d e : ℕ). (d == dev) && (e == ep)) (sym (eqb-true entry.dev line.dev parts.0)) (sym (eqb-true entry.ep line.ep parts.1))

-- the packets of a line stand behind those of the entry of its endpoint, behind which there is no other
joined_here : (dev ep : ℕ) (line entry : ExpectedPackets) (entries : List ExpectedPackets) → is_of line.dev line.ep entry ≡ true → IsApart entry.dev entry.ep entries
    → expected_at (and_more entry line.packets ∷ entries) dev ep ≡ expected_at (entry ∷ entries) dev ep ++ expected_by dev ep line
joined_here dev ep line entry entries same apart =
    by_test (is_of dev ep entry) refl ∙ ap (λ b. expected_at (entry ∷ entries) dev ep ++ (if b then line.packets else [])) (sym (of_the_same dev ep line entry same))
  where
    none_behind : is_of dev ep entry ≡ true → expected_at entries dev ep ≡ []
    none_behind here =
        let parts = and_parts (entry.dev == dev) (entry.ep == ep) here in
        sym (ap₂ (λ (d e : ℕ). expected_at entries d e) (eqb-true entry.dev dev parts.0) (eqb-true entry.ep ep parts.1)) ∙ nothing_apart entry.dev entry.ep entries apart

    by_test : (b : Bool) → is_of dev ep entry ≡ b
        → (if b then entry.packets ++ line.packets else []) ++ expected_at entries dev ep ≡ ((if b then entry.packets else []) ++ expected_at entries dev ep) ++ (if b then line.packets else [])
    by_test true here = rw (none_behind here) (append-nil (entry.packets ++ line.packets) ∙ ap (λ packets. packets ++ line.packets) (sym (append-nil entry.packets)))
    by_test false here = sym (append-nil (expected_at entries dev ep))

-- a line joins the entry of its endpoint
module _ (line other : ExpectedPackets) where
  -- the entries, where it joins the one at a place
  abbrev joined : List ExpectedPackets → ℕ → List ExpectedPackets
  joined entries place = set entries place (and_more (get_or entries place other) line.packets)

  -- what is of other endpoints stays so
  joined_apart : (dev ep : ℕ) (entries : List ExpectedPackets) (place : ℕ) → place < length entries → IsApart dev ep entries → IsApart dev ep (joined entries place)
  joined_apart dev ep [] place within apart = tt
  joined_apart dev ep (entry ∷ entries) zero within apart = (apart.0, apart.1)
  joined_apart dev ep (entry ∷ entries) (suc place) within apart = (apart.0, joined_apart dev ep entries place (omega (arith, within)) apart.1)

  pub joined_once : (entries : List ExpectedPackets) (place : ℕ) → place < length entries → HasEndpointsOnce entries → HasEndpointsOnce (joined entries place)
  unfolding IsDistinct
  joined_once [] place within once = tt
  joined_once (entry ∷ entries) zero within once = (once.0, once.1)
  joined_once (entry ∷ entries) (suc place) within once =
      (joined_apart entry.dev entry.ep entries place (omega (arith, within)) once.0, joined_once entries place (omega (arith, within)) once.1)

  pub joined_expected : (entries : List ExpectedPackets) (place : ℕ) → place < length entries → is_of line.dev line.ep (get_or entries place other) ≡ true → HasEndpointsOnce entries
      → (dev ep : ℕ) → expected_at (joined entries place) dev ep ≡ expected_at entries dev ep ++ expected_by dev ep line
  unfolding IsDistinct
  joined_expected [] place within same once dev ep = absurd (omega (arith, within))
  joined_expected (entry ∷ entries) zero within same once dev ep = joined_here dev ep line entry entries same once.0
  joined_expected (entry ∷ entries) (suc place) within same once dev ep =
      ap (λ packets. expected_by dev ep entry ++ packets) (joined_expected entries place (omega (arith, within)) same once.1 dev ep)
      ∙ sym (append_assoc (expected_by dev ep entry) (expected_at entries dev ep) (expected_by dev ep line))

-- where no entry is of an endpoint, none is found at any place
apart_past : (dev ep : ℕ) (entries : List ExpectedPackets) → length entries ≤ position_or_len (is_of dev ep) entries → IsApart dev ep entries
apart_past dev ep [] past = tt
apart_past dev ep (entry ∷ entries) past = by_test (is_of dev ep entry) refl past (apart_past dev ep entries)
  where
    by_test : (b : Bool) → is_of dev ep entry ≡ b → suc (length entries) ≤ cond (not b) (1 + position_or_len (is_of dev ep) entries) 0
        → (length entries ≤ position_or_len (is_of dev ep) entries → IsApart dev ep entries) → IsApart dev ep (entry ∷ entries)
    by_test true here past more = absurd (omega (arith, past))
    by_test false here past more = (here, more (omega (arith, past)))

pub apart_from_none : (dev ep : ℕ) (entries : List ExpectedPackets) → position (is_of dev ep) entries ≡ None → IsApart dev ep entries
apart_from_none dev ep entries none = apart_past dev ep entries (by_test (nat_lt at (length entries)) refl none)
  where
    at : ℕ
    at = position_or_len (is_of dev ep) entries

    by_test : (b : Bool) → nat_lt at (length entries) ≡ b → cond b (Some at) None ≡ None → length entries ≤ at
    by_test true less wrong = cc
    by_test false less none = ltb-false at (length entries) less

-- a line of an endpoint that had no entry is the last
eqb_flip : (a b : ℕ) → eqb a b ≡ eqb b a
eqb_flip a b = ⊎_elim (λ same. eq-eqb a b same ∙ sym (eq-eqb b a (sym same))) (λ differ. ne_eqb a b differ ∙ sym (ne_eqb b a (λ same. differ (sym same)))) (cases_eq a b)

apart_behind : (dev ep : ℕ) (entries : List ExpectedPackets) (line : ExpectedPackets) → IsApart dev ep entries → is_of dev ep line ≡ false → IsApart dev ep (entries ++ line ∷ [])
apart_behind dev ep [] line apart other = (other, tt)
apart_behind dev ep (entry ∷ entries) line apart other = (apart.0, apart_behind dev ep entries line apart.1 other)

pub last_once : (entries : List ExpectedPackets) (line : ExpectedPackets) → HasEndpointsOnce entries → IsApart line.dev line.ep entries → HasEndpointsOnce (entries ++ line ∷ [])
unfolding IsDistinct
last_once [] line once apart = (tt, tt)
last_once (entry ∷ entries) line once apart =
    let other : is_of entry.dev entry.ep line ≡ false = ap₂ (λ (d e : Bool). d && e) (eqb_flip line.dev entry.dev) (eqb_flip line.ep entry.ep) ∙ apart.0 in
    (apart_behind entry.dev entry.ep entries line once.0 other, last_once entries line once.1 apart.1)

-- at first there is none
pub none_once : HasEndpointsOnce []
unfolding IsDistinct
none_once = tt
