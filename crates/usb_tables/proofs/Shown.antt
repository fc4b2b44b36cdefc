-- What a caller sees of the transfers in flight, as items come, end and leave.
use Rattle.std.proofs.Common.{◌≡◌, ℕ, ◌+◌, ◌<◌, List, [], ◌∷◌, ◌++◌, length, drop, replicate, Option, Some, None, slice_index_or, slice_set, refl, sym, ap, ◌∙◌, arith}
use Rattle.std.proofs.lemmas.List.{set-set, set-get_or, get_or-set_same, get_or-set_other}
use Rattle.usb_tables.specs.Store.{Slots, count, transfer_at, Updates, with_transfer}
use Rattle.usb_tables.specs.declared.ending.Waiting.{Waiting}
use Rattle.usb_tables.specs.ByEndpoint.{lane_at}
use Rattle.usb_tables.specs.TransfersInFlight.{TransfersInFlight, blanked_at, keys_at, left_at, line_at, item_at, with_item, with_keys, with_last}
use Rattle.usb_tables.specs.Places.{Stands, seen, seen_line, seen_lines, seen_ended, seen_flights, lines_weight, ended_weight, one_at}
use Rattle.usb_tables.proofs.Kept.{KeptBut, lines-kept, ended-kept}
use Rattle.usb_tables.proofs.Seen.{line-length, line-at, line-append, line-put, line-rest, lines-at, lines-put, lines-empty, ended-append, ended-none}
use Rattle.usb_tables.proofs.Stands.{blank-none, first-none, key-live, written-stands}
use Rattle.usb_tables.proofs.Weights.{item-within}

module _ {T : Type 0} (s : Slots T) (lanes : List (List (Option ℕ))) (waits : List Waiting) (d e : ℕ) where
  -- a line is seen as long as it is
  pub len-shown : length (line_at (seen_flights s lanes waits) d e) ≡ length (keys_at lanes d e)
  len-shown = ap length (lines-at s lanes (lane_at d e)) ∙ line-length s (keys_at lanes d e)

  -- an item is the transfer with its key
  pub item-shown : (i : ℕ) → item_at (seen_flights s lanes waits) d e i ≡ seen s (slice_index_or (keys_at lanes d e) i None)
  item-shown i = ap (λ l. slice_index_or l i None) (lines-at s lanes (lane_at d e)) ∙ line-at s (keys_at lanes d e) i

  -- blanks leave
  pub leave-shown : (n : ℕ) → seen_flights s (with_keys lanes d e (drop n (keys_at lanes d e))) waits
      ≡ left_at (seen_flights s lanes waits) d e n
  leave-shown n =
      let put : seen_lines s (slice_set lanes (lane_at d e) (drop n (keys_at lanes d e))) ≡ slice_set (seen_lines s lanes) (lane_at d e) (drop n (slice_index_or (seen_lines s lanes) (lane_at d e) []))
      = lines-put s lanes (lane_at d e) (drop n (keys_at lanes d e))
      ∙ ap (λ l. slice_set (seen_lines s lanes) (lane_at d e) l) (line-rest s (keys_at lanes d e) n ∙ ap (λ l. drop n l) (sym (lines-at s lanes (lane_at d e)))) in
      ap (λ ls. record { lines = ls; keys = with_keys lanes d e (drop n (keys_at lanes d e)); ended = seen_ended s waits; next_key = s.vacant_key }) put

  -- a transfer ends
  pub end-shown : (i : ℕ) (w : Waiting) (t : T) → slice_index_or (keys_at lanes d e) i None ≡ Some w.key → item_at (seen_flights s lanes waits) d e i ≡ Some t
      → seen_flights s (with_keys lanes d e (slice_set (keys_at lanes d e) i None)) (waits ++ w ∷ [])
      ≡ record (blanked_at (seen_flights s lanes waits) d e i) { ended = seen_ended s waits ++ record { transfer = t; ending = w.ending } ∷ [] }
  end-shown i w t at there =
      let put : seen_lines s (slice_set lanes (lane_at d e) (slice_set (keys_at lanes d e) i None))
      ≡ slice_set (seen_lines s lanes) (lane_at d e) (slice_set (slice_index_or (seen_lines s lanes) (lane_at d e) []) i None)
      = lines-put s lanes (lane_at d e) (slice_set (keys_at lanes d e) i None)
      ∙ ap (λ l. slice_set (seen_lines s lanes) (lane_at d e) l) (line-put s (keys_at lanes d e) i None ∙ ap (λ l. slice_set l i None) (sym (lines-at s lanes (lane_at d e)))) in
      let live : transfer_at s w.key ≡ Some t = sym (ap (seen s) at) ∙ sym (item-shown i) ∙ there in
      let last : seen_ended s (waits ++ w ∷ []) ≡ seen_ended s waits ++ record { transfer = t; ending = w.ending } ∷ [] = ended-append s waits w t live in
      cc

  -- a key behind a line is seen as its transfer
  line-last : (r : Slots T) (key : ℕ) (t : T) → transfer_at r key ≡ Some t → seen_line r (keys_at lanes d e ++ Some key ∷ []) ≡ seen_line r (keys_at lanes d e) ++ Some t ∷ []
  unfolding seen_line
  line-last r key t is = line-append r (keys_at lanes d e) (Some key ∷ []) ∙ ap (λ o. seen_line r (keys_at lanes d e) ++ o ∷ []) is

  module _ (r : Slots T) (key : ℕ) (t : T) (stands : Stands s lanes waits) (within : lane_at d e < length lanes) where
    -- a transfer joins a line
    pub push-shown : lines_weight (one_at key) lanes + ended_weight (one_at key) waits ≡ 0 → Updates s r key (Some t)
        → seen_lines r (with_keys lanes d e (keys_at lanes d e ++ Some key ∷ []))
        ≡ (with_last (seen_flights s lanes waits) d e key t).lines
    push-shown none updates =
        let kept : seen_lines r lanes ≡ seen_lines s lanes = lines-kept s r key updates.others lanes (omega arith) in
        let line : seen_line r (keys_at lanes d e) ≡ slice_index_or (seen_lines s lanes) (lane_at d e) []
        = sym (lines-at r lanes (lane_at d e)) ∙ ap (λ ls. slice_index_or ls (lane_at d e) []) kept in
        let last : seen_line r (keys_at lanes d e ++ Some key ∷ []) ≡ seen_line r (keys_at lanes d e) ++ Some t ∷ [] = line-last r key t updates.changed in
        lines-put r lanes (lane_at d e) (keys_at lanes d e ++ Some key ∷ [])
        ∙ ap (λ ls. slice_set ls (lane_at d e) (seen_line r (keys_at lanes d e ++ Some key ∷ []))) kept
        ∙ ap (λ l. slice_set (seen_lines s lanes) (lane_at d e) l) (last ∙ ap (λ l. l ++ Some t ∷ []) line)

    -- a transfer changes where it stands
    pub write-shown : (i : ℕ) → slice_index_or (keys_at lanes d e) i None ≡ Some key → KeptBut s r key → transfer_at r key ≡ Some t → r.vacant_key ≡ s.vacant_key
        → seen_flights r lanes waits ≡ with_item (seen_flights s lanes waits) d e i (Some t)
    write-shown i at others here same =
        let blank : List (Option ℕ) = slice_set (keys_at lanes d e) i None in
        let blanked : List (List (Option ℕ)) = slice_set lanes (lane_at d e) blank in
        let none : lines_weight (one_at key) blanked + ended_weight (one_at key) waits ≡ 0 = blank-none s lanes waits stands d e within i key at in
        let kept : seen_lines r blanked ≡ seen_lines s blanked = lines-kept s r key others blanked (omega arith) in
        let ends : seen_ended r waits ≡ seen_ended s waits = ended-kept s r key others waits (omega arith) in
        let here-line : slice_index_or blanked (lane_at d e) [] ≡ blank = get_or-set_same lanes (lane_at d e) blank [] within in
        let line-blank : seen_line r blank ≡ seen_line s blank
        = ap (seen_line r) (sym here-line) ∙ sym (lines-at r blanked (lane_at d e)) ∙ ap (λ ls. slice_index_or ls (lane_at d e) []) kept
        ∙ lines-at s blanked (lane_at d e) ∙ ap (seen_line s) here-line in
        let whole : slice_set blank i (Some key) ≡ keys_at lanes d e
        = set-set (keys_at lanes d e) i None (Some key) ∙ ap (λ x. slice_set (keys_at lanes d e) i x) (sym at) ∙ set-get_or (keys_at lanes d e) i None in
        let line : seen_line r (keys_at lanes d e) ≡ slice_set (seen_line s (keys_at lanes d e)) i (Some t)
        = ap (seen_line r) (sym whole) ∙ line-put r blank i (Some key) ∙ ap (λ l. slice_set l i (transfer_at r key)) (line-blank ∙ line-put s (keys_at lanes d e) i None)
        ∙ ap (λ o. slice_set (slice_set (seen_line s (keys_at lanes d e)) i None) i o) here ∙ set-set (seen_line s (keys_at lanes d e)) i None (Some t) in
        let back : slice_set blanked (lane_at d e) (keys_at lanes d e) ≡ lanes
        = set-set lanes (lane_at d e) blank (keys_at lanes d e) ∙ set-get_or lanes (lane_at d e) [] in
        let all : seen_lines r lanes ≡ slice_set (seen_lines s lanes) (lane_at d e) (slice_set (slice_index_or (seen_lines s lanes) (lane_at d e) []) i (Some t))
        = ap (seen_lines r) (sym back) ∙ lines-put r blanked (lane_at d e) (keys_at lanes d e)
        ∙ ap (λ ls. slice_set ls (lane_at d e) (seen_line r (keys_at lanes d e))) (kept ∙ lines-put s lanes (lane_at d e) blank)
        ∙ set-set (seen_lines s lanes) (lane_at d e) (seen_line s blank) (seen_line r (keys_at lanes d e))
        ∙ ap (λ l. slice_set (seen_lines s lanes) (lane_at d e) l) (line ∙ ap (λ l. slice_set l i (Some t)) (sym (lines-at s lanes (lane_at d e)))) in
        cc

-- what is seen of others stays, as the first that ended is taken
pub take-shown : {T : Type 0} (s r : Slots T) (lanes : List (List (Option ℕ))) (waits : List Waiting) (w : Waiting) → Stands s lanes (w ∷ waits) → Updates s r w.key None
    → (seen_lines r lanes ≡ seen_lines s lanes) × (seen_ended r waits ≡ seen_ended s waits)
take-shown s r lanes waits w stands updates =
    let none = first-none s lanes waits w stands in
    (lines-kept s r w.key updates.others lanes (omega arith), ended-kept s r w.key updates.others waits (omega arith))

-- where there is no key there is no transfer
pub none-shown : {T : Type 0} (s : Slots T) (lanes : List (List (Option ℕ))) (waits : List Waiting) (v : TransfersInFlight T) (d e i : ℕ) → seen_flights s lanes waits ≡ v
    → slice_index_or (keys_at lanes d e) i None ≡ None → item_at v d e i ≡ None
none-shown s lanes waits v d e i is none = ap (λ w. item_at w d e i) (sym is) ∙ item-shown s lanes waits d e i ∙ ap (seen s) none

-- the transfer with an item's key is the item
pub live-shown : {T : Type 0} (s : Slots T) (lanes : List (List (Option ℕ))) (waits : List Waiting) (v : TransfersInFlight T) (d e i key : ℕ) → seen_flights s lanes waits ≡ v
    → slice_index_or (keys_at lanes d e) i None ≡ Some key → item_at v d e i ≡ transfer_at s key
live-shown s lanes waits v d e i key is at = ap (λ w. item_at w d e i) (sym is) ∙ item-shown s lanes waits d e i ∙ ap (seen s) at

-- a transfer changes in the store, and so where it stands
pub put-shown : {T : Type 0} (s : Slots T) (lanes : List (List (Option ℕ))) (waits : List Waiting) (v : TransfersInFlight T) (d e i key : ℕ) → seen_flights s lanes waits ≡ v
    → Stands s lanes waits → lane_at d e < length lanes → slice_index_or (keys_at lanes d e) i None ≡ Some key → (was now : T) → transfer_at s key ≡ Some was
    → seen_flights (with_transfer s key now) lanes waits ≡ with_item v d e i (Some now)
put-shown s lanes waits v d e i key is stands within at was now live =
    let inside : key < length s.slots = item-within s.slots key was live in
    let here : transfer_at (with_transfer s key now) key ≡ Some now = get_or-set_same s.slots key (Some now) None inside in
    write-shown s lanes waits d e (with_transfer s key now) key now stands within i at (λ other differs. get_or-set_other s.slots key other (Some now) None differs) here refl
    ∙ ap (λ w. with_item w d e i (Some now)) is

-- and the same where the change is of what the transfer was
pub change-shown : {T : Type 0} (s : Slots T) (lanes : List (List (Option ℕ))) (waits : List Waiting) (v : TransfersInFlight T) (d e i key : ℕ) → seen_flights s lanes waits ≡ v
    → Stands s lanes waits → lane_at d e < length lanes → slice_index_or (keys_at lanes d e) i None ≡ Some key → (f : T → T) (was t : T) → transfer_at s key ≡ Some was → item_at v d e i ≡ Some t
    → seen_flights (with_transfer s key (f was)) lanes waits ≡ with_item v d e i (Some (f t))
change-shown s lanes waits v d e i key is stands within at f was t live there =
    let both : Some was ≡ Some t = sym live ∙ sym (live-shown s lanes waits v d e i key is at) ∙ there in
    let same : was ≡ t = cc in
    put-shown s lanes waits v d e i key is stands within at was (f was) live ∙ ap (λ x. with_item v d e i (Some (f x))) same

-- nothing is seen at first
pub new-shown : {T : Type 0} (s : Slots T) (lanes : List (List (Option ℕ))) (waits : List Waiting) → s ≡ record { slots = []; vacant_key = 0 } → lanes ≡ replicate 128 [] → waits ≡ []
    → seen_flights s lanes waits ≡ record { lines = replicate 128 []; keys = replicate 128 []; ended = []; next_key = 0 }
new-shown s lanes waits p q r =
    let lines : seen_lines s lanes ≡ replicate 128 [] = ap (seen_lines s) q ∙ lines-empty s 128 in
    let ended : seen_ended s waits ≡ [] = ap (seen_ended s) r ∙ ended-none s in
    let next : s.vacant_key ≡ 0 = ap (λ x. x.vacant_key) p in
    cc

-- what is read of a line is at the item
pub key-at : (lanes : List (List (Option ℕ))) (d e i : ℕ) (l : List (Option ℕ)) (x : Option ℕ) → l ≡ keys_at lanes d e → x ≡ slice_index_or l i None
    → slice_index_or (keys_at lanes d e) i None ≡ x
key-at lanes d e i l x same is = ap (λ r. slice_index_or r i None) (sym same) ∙ sym is

-- the transfer with an item's key is there, whatever is written to it: it stands where it stood, and the item is what was written
pub lent-stands : {T : Type 0} (s : Slots T) (lanes : List (List (Option ℕ))) (waits : List Waiting) (d e i key : ℕ) → Stands s lanes waits → lane_at d e < length lanes
    → slice_index_or (keys_at lanes d e) i None ≡ Some key → (now : T) → Stands (with_transfer s key now) lanes waits × (count (with_transfer s key now) ≡ count s)
lent-stands {T} s lanes waits d e i key stands within at now = by_case (transfer_at s key) refl
  where
    by_case : (o : Option T) → transfer_at s key ≡ o → Stands (with_transfer s key now) lanes waits × (count (with_transfer s key now) ≡ count s)
    by_case None none = absurd (key-live s lanes waits stands d e within i key at none)
    by_case (Some was) live = written-stands s lanes waits stands key was now live

pub lent-shown : {T : Type 0} (s : Slots T) (lanes : List (List (Option ℕ))) (waits : List Waiting) (v : TransfersInFlight T) (d e i key : ℕ) → seen_flights s lanes waits ≡ v
    → Stands s lanes waits → lane_at d e < length lanes → slice_index_or (keys_at lanes d e) i None ≡ Some key → (now : T)
    → seen_flights (with_transfer s key now) lanes waits ≡ with_item v d e i (Some now)
lent-shown {T} s lanes waits v d e i key is stands within at now = by_case (transfer_at s key) refl
  where
    by_case : (o : Option T) → transfer_at s key ≡ o → seen_flights (with_transfer s key now) lanes waits ≡ with_item v d e i (Some now)
    by_case None none = absurd (key-live s lanes waits stands d e within i key at none)
    by_case (Some was) live = put-shown s lanes waits v d e i key is stands within at was now live
