-- A packet that is served keeps the ledger of its endpoint.
use Rattle.std.proofs.Common.{Bool, List, None, Option, Some, [], ap, append-nil, ap₂, drop, false, inl, inr, length, map, not, refl, subst, sym, true, ℕ, ◌++◌, ◌||◌, ◌∙◌, ◌∷◌, ◌≡◌}
use Rattle.std.proofs.lemmas.Bool.{and_parts}
use Rattle.std.specs.List.{AllByRecursion, flat_map, list_all}
use Rattle.std.specs.Prelude.{MatchBool, if◌then◌else◌, unwrap_or}
use Rattle.std.proofs.lemmas.List.{map-append}
use Rattle.usb_model.specs.declared.response.Response.{Response}
use Rattle.usb_model.specs.declared.endpoint.Endpoint.{Endpoint}
use Rattle.usb_model.specs.declared.endpoint.EndpointState.TheVariants.{Running}
use Rattle.usb_model.specs.declared.endpoint.EndpointState.{EndpointState}
use Rattle.usb_model.specs.declared.item.Item.{Item}
use Rattle.usb_model.specs.declared.item.ItemState.TheVariants.{Blank, Served, Waiting}
use Rattle.usb_model.specs.declared.item.ItemState.{ItemState}
use Rattle.usb_model.specs.declared.reply.Reply.{Reply}
use Rattle.usb_model.specs.declared.request.Body.TheVariants.{In, Out}
use Rattle.usb_model.specs.declared.request.Body.{Body}
use Rattle.usb_model.specs.Laws.Account.{Accepted, Account, Asked, ended_by}
use Rattle.usb_model.specs.Laws.Cut.{Ended, Fate, FitsFate, HasSize, IsOpen, Waits, has_stall, is_empty_packet, packets_taken, packets_taken_by}
use Rattle.usb_model.specs.declared.endpoint_effect.EndpointEffect.{EndpointEffect}
use Rattle.usb_model.specs.Endpoint.{first_waiting, is_blank_state, is_waiting, is_waiting_state, outcome_of, with_first}
use Rattle.usb_model.specs.Endpoint.Packets.{Ends, IsOpenAt, open_with, outcome}
use Rattle.usb_model.specs.Endpoint.Serve.{acknowledged, is_no_packet, next_answer, serve, serve_by, serve_first, serve_gone}
use Rattle.proof_model.proofs.Cut.Ledger.{Holds, HoldsAt, IsFate, IsQuiet, IsUntouched, Row, RowToldBy, all_cells, all_parts, cell_of, item_of, part_of, quiet_by, stalled}
use Rattle.proof_model.proofs.Cut.Leaves.{no_more}
use Rattle.proof_model.proofs.Cut.Rows.{mid_of, stalled-append, with_more, with_row}
use Rattle.proof_model.proofs.Cut.Works.{holds_served, quiet_behind, untouched_flag}
use Rattle.proof_model.proofs.Shares.Cuts.{open_flag, stall-append}
use Rattle.usb_model.specs.Direction.{IsBody}
use Rattle.std.proofs.lemmas.Option.{same_Some}
use Rattle.proof_model.proofs.Cut.NextAnswer.{AfterServe, after_serve, moved, next_kinds, next_split, next_stall}

-- the first row that waits
record WaitsAt (rows : List Row) (x : Item) : Type 0 where
  front : List Row
  row : Row
  back : List Row
  is : rows ≡ front ++ row ∷ back
  item : row.item ≡ x
  none_before : AllByRecursion (λ r. is_waiting r.item ≡ false) front
  waits : row.item.state ≡ Waiting
  becomes : (y : Item) → with_first y (map item_of rows) ≡ map item_of front ++ y ∷ map item_of back

-- the first waiting item has its row, and no row before it waits
waits_at : (rows : List Row) (x : Item) → first_waiting (map item_of rows) ≡ Some x → WaitsAt rows x
unfolding first_waiting with_first
waits_at [] x f = absurd cc
waits_at (r ∷ rows) x f = by_test (is_waiting r.item) refl f (waits_at rows x)
  where
    waiting : (s : ItemState) → is_waiting_state s ≡ true → s ≡ Waiting
    waiting Waiting e = refl
    waiting (Served code) e = absurd cc
    waiting Blank e = absurd cc

    by_test : (b : Bool) → is_waiting r.item ≡ b → (if b then Some r.item else first_waiting (map item_of rows)) ≡ Some x → (first_waiting (map item_of rows) ≡ Some x → WaitsAt rows x) → WaitsAt (r ∷ rows) x
    by_test true w f rest = record {
      front = [];
      row = r;
      back = rows;
      is = refl;
      item = same_Some r.item x f;
      none_before = tt;
      waits = waiting r.item.state w;
      becomes = λ y. rw w refl;
    }
    by_test false w f rest =
        let t = rest f in
        record {
          front = r ∷ t.front;
          row = t.row;
          back = t.back;
          is = ap (λ l. r ∷ l) t.is;
          item = t.item;
          none_before = (w, t.none_before);
          waits = t.waits;
          becomes = λ y. rw w (ap (λ l. r.item ∷ l) (t.becomes y));
        }

-- what a doing leaves of the ledger; gone: whether the device is
abbrev pub KeepsLedger : ℕ → Bool → ℕ → List Response → Account → Bool → List Accepted → List Asked → EndpointEffect → Type 0
KeepsLedger size inward next script a gone accepted asked d =
    HoldsAt size inward next script (with_more a accepted asked (ended_by gone d.reply) (map (λ r. record { result = r; gone = gone }) d.results)) d.endpoint

-- a row that waits, with what is known of it
record WaitingRow (size : ℕ) (inward : Bool) (a : Account) (halted behind : Bool) (r : Row) : Type 0 where
  flag : halted ≡ behind
  open_share : IsOpen size behind (part_of r)
  told : RowToldBy size a r Waits

-- what the ledger says of a row that waits
waiting_row : (size : ℕ) (inward : Bool) (next : ℕ) (script : List Response) (a : Account) (e : Endpoint) (front back : List Row) (r : Row) (h : HoldsAt size inward next script a e) → h.rows ≡ front ++ r ∷ back → r.item.state ≡ Waiting
    → WaitingRow size inward a e.device_halted (stalled false (all_cells h.gone front)) r
waiting_row size inward next script a e front back r h is waits =
    let m = mid_of size inward next script a e.line e.script_left e.device_halted e.packets_received front back r h is in
    let behind : Bool = stalled false (all_cells h.gone front) in
    let fate : r.fate ≡ Waits = subst (λ t. IsFate t r.fate) waits m.row.fate in
    let untouched : AllByRecursion IsUntouched back = subst (λ t. quiet_by t back (IsQuiet back)) waits (quiet_behind front (r ∷ back) m.quiet) in
    let op : IsOpen size behind (part_of r) = subst (FitsFate size behind (part_of r)) fate m.row_fits in
    record {
      flag = h.halt ∙ (ap (stalled false) m.cells ∙ (stalled-append false (all_cells h.gone front) (cell_of r ∷ map cell_of back) ∙ (untouched_flag (behind || has_stall r.item.share) back untouched ∙ open_flag size behind (part_of r) op)));
      open_share = op;
      told = subst (RowToldBy size a r) fate m.row.told;
    }

-- replies that tell no end, by a test
not_ended : (gone b : Bool) (p q : Reply) → ended_by gone p ≡ [] → ended_by gone q ≡ [] → ended_by gone (if b then p else q) ≡ []
not_ended gone true p q e f = e
not_ended gone false p q e f = f

-- the packets that the device takes now
takes_packets : (size : ℕ) (r : Row) (next : List Response) (state : ItemState) (fate : Fate) (halted : Bool) (s : AfterServe size halted r.item.request r.item.share next)
    → packets_taken size (part_of (with_row r (r.item.share ++ next) state r.item.ask fate)) ≡ packets_taken size (part_of r) ++ acknowledged r.item.request.body (outcome_of size r.item) s.result
takes_packets size r next state fate halted s = by_body r.item.request.body
  where
    by_body : (body : Body) → packets_taken_by size (part_of (with_row r (r.item.share ++ next) state r.item.ask fate)) body ≡ packets_taken_by size (part_of r) body ++ acknowledged body (outcome_of size r.item) s.result
    by_body (In n) = refl
    by_body (Out bytes) = s.grows

-- a share to which nothing is added moves no packet
same_but_share : (size : ℕ) (r : Row) (state : ItemState) (fate : Fate) → packets_taken size (part_of (with_row r (r.item.share ++ []) state r.item.ask fate)) ≡ packets_taken size (part_of r) ++ []
same_but_share size r state fate = by_body r.item.request.body
  where
    by_body : (body : Body) → packets_taken_by size (part_of (with_row r (r.item.share ++ []) state r.item.ask fate)) body ≡ packets_taken_by size (part_of r) body ++ []
    by_body (In n) = refl
    by_body (Out bytes) = ap (moved r.item.request size) (append-nil r.item.share) ∙ sym (append-nil (moved r.item.request size r.item.share))

-- a packet that a waiting transfer is served keeps the ledger
holds_serve_by : (size : ℕ) (inward : Bool) (next : ℕ) (script : List Response) (a : Account) (e : Endpoint) (front back : List Row) (r : Row) (h : HoldsAt size inward next script a e) → h.rows ≡ front ++ r ∷ back
    → r.item.state ≡ Waiting → AllByRecursion (λ x. is_waiting x.item ≡ false) front → ((y : Item) → with_first y e.line ≡ map item_of front ++ y ∷ map item_of back)
    → (s : AfterServe size e.device_halted r.item.request r.item.share (next_answer e)) (code : Option ℕ) → s.result.code ≡ code
    → KeepsLedger size inward next script a false [] [] (serve_by e r.item (outcome_of size r.item) s.result code)
unfolding serve_by
holds_serve_by size inward next script a e front back r h is waits none_before becomes s None open_code =
    let k = waiting_row size inward next script a e front back r h is waits in
    let behind : Bool = stalled false (all_cells h.gone front) in
    let op : IsOpen size behind (part_of (with_row r (r.item.share ++ next_answer e) r.item.state r.item.ask Waits)) =
    subst (λ b. MatchBool b (r.item.share ++ next_answer e ≡ []) (IsOpenAt (outcome r.item.request size (r.item.share ++ next_answer e) false))) k.flag (s.open_still open_code) in
    subst (λ es. Holds size inward next script (with_more a [] [] es []) (with_first (record r.item { share = r.item.share ++ next_answer e }) e.line) (drop (length (next_answer e)) e.script_left) e.device_halted (e.packets_received ++ acknowledged r.item.request.body (outcome_of size r.item) s.result))
    (sym (not_ended false (is_no_packet (next_answer e)) _ _ refl refl))
    (holds_served size inward next script a e.line _ e.script_left _ e.device_halted e.device_halted e.packets_received front back r (next_answer e) r.item.state Waits [] (acknowledged r.item.request.body (outcome_of size r.item) s.result) h is
    (record {
      none_before = none_before;
      waits = waits;
      live = ap is_blank_state waits;
      fate_fits = subst (λ t. IsFate t Waits) (sym waits) refl;
      fits = op;
      flag = k.flag ∙ sym (open_flag size behind (part_of (with_row r (r.item.share ++ next_answer e) r.item.state r.item.ask Waits)) op);
      end = refl;
      packets_received = takes_packets size r (next_answer e) r.item.state Waits e.device_halted s;
      told = k.told;
      left_is = next_split e.device_halted e.script_left;
      kinds = next_kinds inward e.device_halted e.script_left h.kinds;
    })
    (map-append item_of front (with_row r (r.item.share ++ next_answer e) r.item.state r.item.ask Waits ∷ back) ∙ sym (becomes _)))
holds_serve_by size inward next script a e front back r h is waits none_before becomes s (Some code) ends =
    let k = waiting_row size inward next script a e front back r h is waits in
    let behind : Bool = stalled false (all_cells h.gone front) in
    holds_served size inward next script a e.line _ e.script_left _ e.device_halted _ e.packets_received front back r (next_answer e) (Served code) (Ended code false) (record { n = r.item.n; code = code; gone = false } ∷ [])
    (acknowledged r.item.request.body (outcome_of size r.item) s.result) h is
    (record {
      none_before = none_before;
      waits = waits;
      live = refl;
      fate_fits = (false, refl, s.uncut code ends);
      fits = subst (λ b. MatchBool b ((r.item.share ++ next_answer e ≡ []) × (code ≡ 6)) (Ends r.item.request size (r.item.share ++ next_answer e) code)) k.flag (s.finishes code ends);
      flag =
          ap₂ (λ b l. b || l) k.flag (sym (next_stall e.device_halted e.script_left))
          ∙ (ap (λ b. b || has_stall (next_answer e)) (sym (open_flag size behind (part_of r) k.open_share)) ∙ sym (stall-append behind r.item.share (next_answer e)));
      end = refl;
      packets_received = takes_packets size r (next_answer e) (Served code) (Ended code false) e.device_halted s;
      told = k.told.0;
      left_is = next_split e.device_halted e.script_left;
      kinds = next_kinds inward e.device_halted e.script_left h.kinds;
    })
    (map-append item_of front (with_row r (r.item.share ++ next_answer e) (Served code) r.item.ask (Ended code false) ∷ back) ∙ sym (becomes _))

-- at a gone device it ends with what it has
holds_serve_gone : (size : ℕ) (inward : Bool) (next : ℕ) (script : List Response) (a : Account) (e : Endpoint) (front back : List Row) (r : Row) (h : HoldsAt size inward next script a e) → h.rows ≡ front ++ r ∷ back
    → r.item.state ≡ Waiting → AllByRecursion (λ x. is_waiting x.item ≡ false) front → ((y : Item) → with_first y e.line ≡ map item_of front ++ y ∷ map item_of back)
    → KeepsLedger size inward next script a true [] [] (serve_gone e r.item)
unfolding serve_gone
holds_serve_gone size inward next script a e front back r h is waits none_before becomes =
    let k = waiting_row size inward next script a e front back r h is waits in
    let behind : Bool = stalled false (all_cells h.gone front) in
    let s : Row = with_row r (r.item.share ++ []) (Served 4) r.item.ask (Ended 4 true) in
    let op : IsOpen size behind (part_of s) = subst (λ l. IsOpen size behind (part_of (with_row r l (Served 4) r.item.ask (Ended 4 true)))) (sym (append-nil r.item.share)) k.open_share in
    subst (Holds size inward next script (with_more a [] [] (record { n = r.item.n; code = 4; gone = true } ∷ []) []) (with_first (record r.item { state = Served 4 }) e.line) e.script_left e.device_halted) (append-nil e.packets_received)
    (holds_served size inward next script a e.line (with_first (record r.item { state = Served 4 }) e.line) e.script_left e.script_left e.device_halted e.device_halted e.packets_received front back r [] (Served 4) (Ended 4 true) (record { n = r.item.n; code = 4; gone = true } ∷ []) [] h is
    (record {
      none_before = none_before;
      waits = waits;
      live = refl;
      fate_fits = (true, refl, refl);
      fits = (refl, op);
      flag = k.flag ∙ sym (open_flag size behind (part_of s) op);
      end = refl;
      packets_received = same_but_share size r (Served 4) (Ended 4 true);
      told = k.told.0;
      left_is = refl;
      kinds = h.kinds;
    })
    (map-append item_of front (s ∷ back) ∙ (ap (λ l. map item_of front ++ record r.item { share = l; state = Served 4 } ∷ map item_of back) (append-nil r.item.share) ∙ sym (becomes (record r.item { state = Served 4 })))))

-- answers behind others of which none is an empty packet
left_sized : (size : ℕ) (front left script : List Response) → front ++ left ≡ script → HasSize size script → HasSize size left
left_sized size front left script is (inl some) = inl some
left_sized size front left script is (inr none) = inr (behind front (ap (list_all (λ x. not (is_empty_packet x))) is ∙ none))
  where
    behind : (xs : List Response) → list_all (λ x. not (is_empty_packet x)) (xs ++ left) ≡ true → list_all (λ x. not (is_empty_packet x)) left ≡ true
    behind [] e = e
    behind (x ∷ xs) e = behind xs (and_parts (not (is_empty_packet x)) (list_all (λ y. not (is_empty_packet y)) (xs ++ left)) e).1

-- a running endpoint that serves its first waiting transfer keeps the ledger
holds_serve_waiting : (size : ℕ) (inward : Bool) (next : ℕ) (script : List Response) (a : Account) (gone : Bool) (e : Endpoint) (x : Item) (h : HoldsAt size inward next script a e) → HasSize size script → WaitsAt h.rows x
    → KeepsLedger size inward next script a gone [] [] (serve_first size gone e Running (Some x))
unfolding serve_first
holds_serve_waiting size inward next script a true e x h some t =
    subst (λ y. KeepsLedger size inward next script a true [] [] (serve_gone e y)) t.item
    (holds_serve_gone size inward next script a e t.front t.back t.row h t.is t.waits t.none_before (λ y. ap (with_first y) (sym h.is_line) ∙ t.becomes y))
holds_serve_waiting size inward next script a false e x h some t =
    subst (λ y. KeepsLedger size inward next script a false [] [] (serve_first size false e Running (Some y))) t.item (with_answer served)
  where
    k : WaitingRow size inward a e.device_halted (stalled false (all_cells h.gone t.front)) t.row
    k = waiting_row size inward next script a e t.front t.back t.row h t.is t.waits

    body : IsBody inward t.row.item.request.body
    body = (mid_of size inward next script a e.line e.script_left e.device_halted e.packets_received t.front t.back t.row h t.is).row.body

    served : AfterServe size e.device_halted t.row.item.request t.row.item.share (next_answer e)
    served = after_serve size inward e.device_halted e.script_left t.row.item.request t.row.item.share (left_sized size (flat_map (λ y. y.share) (all_parts h.gone h.rows)) e.script_left script h.shares some) body h.kinds (subst (λ b. IsOpen size b (part_of t.row)) (sym k.flag) k.open_share)

    with_answer : AfterServe size e.device_halted t.row.item.request t.row.item.share (next_answer e) → KeepsLedger size inward next script a false [] [] (serve_first size false e Running (Some t.row.item))
    with_answer s =
        subst (λ o. KeepsLedger size inward next script a false [] [] (serve_by e t.row.item (outcome_of size t.row.item) (unwrap_or o (open_with [])) (unwrap_or o (open_with [])).code)) (sym s.there)
        (holds_serve_by size inward next script a e t.front t.back t.row h t.is t.waits t.none_before (λ y. ap (with_first y) (sym h.is_line) ∙ t.becomes y) s s.result.code refl)

-- an endpoint that serves, in each state, keeps the ledger
holds_serve_first : (size : ℕ) (inward : Bool) (next : ℕ) (script : List Response) (a : Account) (gone : Bool) (e : Endpoint) (s : EndpointState) (i : Option Item) → HasSize size script → first_waiting e.line ≡ i → HoldsAt size inward next script a e
    → KeepsLedger size inward next script a gone [] [] (serve_first size gone e s i)
unfolding serve_first
holds_serve_first size inward next script a true e Running (Some x) some first h = holds_serve_waiting size inward next script a true e x h some (waits_at h.rows x (ap first_waiting h.is_line ∙ first))
holds_serve_first size inward next script a false e Running (Some x) some first h = holds_serve_waiting size inward next script a false e x h some (waits_at h.rows x (ap first_waiting h.is_line ∙ first))
holds_serve_first size inward next script a gone e _ _ some first h = subst (λ b. HoldsAt size inward next script b e) (sym (no_more a)) h

-- the device answers a packet
pub holds_serve : (size : ℕ) (inward : Bool) (next : ℕ) (script : List Response) (a : Account) (gone : Bool) (e : Endpoint) → HasSize size script → HoldsAt size inward next script a e → KeepsLedger size inward next script a gone [] [] (serve size gone e)
unfolding serve
holds_serve size inward next script a gone e some h = holds_serve_first size inward next script a gone e e.state (first_waiting e.line) some refl h
