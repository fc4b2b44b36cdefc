-- What the next packet at an endpoint would do, after a packet and after an event.
use Rattle.std.proofs.Common.{Bool, List, None, Option, Some, [], map, ap, append-nil, arith, false, refl, sym, take, drop, true, ℕ, ◌++◌, ◌∙◌, ◌∷◌, ◌≡◌, inl, inr, ◌⊎◌, length}
use Rattle.std.specs.Prelude.{if◌then◌else◌, nat_lt}
use Rattle.std.specs.List.{AllByRecursion}
use Rattle.std.specs.Option.{unwrap_or}
use Rattle.std.proofs.Math.Seq.{drop-nil}
use Rattle.std.proofs.lemmas.Bool.{ltb-false}
use Rattle.std.proofs.lemmas.Option.{same_Some}
use Rattle.usb_model.specs.declared.endpoint.Endpoint.{Endpoint}
use Rattle.usb_model.specs.declared.endpoint.EndpointState.{EndpointState}
use Rattle.usb_model.specs.declared.endpoint.EndpointState.TheVariants.{Halted, Running, Stopped}
use Rattle.usb_model.specs.declared.errand.Errand.{Errand}
use Rattle.usb_model.specs.declared.errand.Errand.TheVariants as errand
use Rattle.usb_model.specs.declared.item.Item.{Item}
use Rattle.usb_model.specs.declared.item.ItemState.{ItemState}
use Rattle.usb_model.specs.declared.item.ItemState.TheVariants.{Blank, Served, Waiting}
use Rattle.usb_model.specs.declared.news.Event.{Event}
use Rattle.usb_model.specs.declared.news.Event.TheVariants.{Finished, Paused, Settled}
use Rattle.usb_model.specs.declared.outcome.Outcome.{Outcome}
use Rattle.usb_model.specs.declared.endpoint_effect.EndpointEffect.{EndpointEffect}
use Rattle.usb_model.specs.declared.reply.Reply.{Reply}
use Rattle.usb_model.specs.declared.reply.Reply.TheVariants as reply
use Rattle.usb_model.specs.declared.response.Response.{Response}
use Rattle.usb_model.specs.declared.result.TransferResult.{TransferResult}
use Rattle.usb_model.specs.Coherence.{IsCoherent}
use Rattle.usb_model.specs.Endpoint.{first_waiting, is_blank, is_blank_state, in_progress, is_waiting, is_waiting_state, outcome_of, past_blanks, past_number, with_first}
use Rattle.usb_model.specs.Endpoint.Deliver.{blanked, deliver, finished_result, leads_blank, line_after, needs_reset, orders_errand, resume}
use Rattle.usb_model.specs.Endpoint.Packets.{open_with, outcome}
use Rattle.usb_model.specs.Endpoint.Serve.{answered, is_no_packet, next_answer, serve, serve_by, serve_first, serve_gone}
use Rattle.usb_model.specs.Endpoint.Status.{halts}
use Rattle.proof_model.proofs.Coherence.FirstEnd.{EndsFirst, end_told}
use Rattle.usb_core.specs.Pending.{tells_work}

-- whether the packet that comes next does something
abbrev pub is_served : (size : ℕ) → (gone : Bool) → Endpoint → Bool
is_served size gone e = tells_work (nat_lt 0 (length e.script_left)) (serve size gone e).reply

-- the first that waits is one that waits
first_waits : (line : List Item) (x : Item) → first_waiting line ≡ Some x → is_waiting x ≡ true
unfolding first_waiting
first_waits [] x e = absurd cc
first_waits (z ∷ zs) x e = by_test (is_waiting z) refl e (first_waits zs x)
  where
    by_test : (b : Bool) → is_waiting z ≡ b → (if b then Some z else first_waiting zs) ≡ Some x → (first_waiting zs ≡ Some x → is_waiting x ≡ true) → is_waiting x ≡ true
    by_test true w q rest = ap is_waiting (sym (same_Some z x q)) ∙ w
    by_test false w q rest = rest q

-- what stands in its place is then the first that waits
first_replaced : (line : List Item) (x y : Item) → first_waiting line ≡ Some x → is_waiting y ≡ true → first_waiting (with_first y line) ≡ Some y
unfolding first_waiting with_first
first_replaced [] x y e w = absurd cc
first_replaced (z ∷ zs) x y e w = by_test (is_waiting z) refl e (λ q. first_replaced zs x y q w)
  where
    by_test : (b : Bool) → is_waiting z ≡ b → (if b then Some z else first_waiting zs) ≡ Some x → (first_waiting zs ≡ Some x → first_waiting (with_first y zs) ≡ Some y) → first_waiting (if b then y ∷ zs else z ∷ with_first y zs) ≡ Some y
    by_test true v q rest = rw w refl
    by_test false v q rest = rw v (rest q)

-- a blank doesn't wait
blank_waits_not : (x : Item) → is_blank x ≡ true → is_waiting x ≡ false
blank_waits_not x is = by_state x.state is
  where
    by_state : (s : ItemState) → is_blank_state s ≡ true → is_waiting_state s ≡ false
    by_state Waiting e = absurd cc
    by_state (Served code) e = refl
    by_state Blank e = refl

-- so the first that waits stands behind the blanks
first-past_blanks : (line : List Item) → first_waiting (past_blanks line) ≡ first_waiting line
unfolding first_waiting past_blanks
first-past_blanks [] = refl
first-past_blanks (x ∷ xs) = by_test (is_blank x) refl (first-past_blanks xs)
  where
    by_test : (b : Bool) → is_blank x ≡ b → first_waiting (past_blanks xs) ≡ first_waiting xs → first_waiting (if b then past_blanks xs else x ∷ xs) ≡ (if is_waiting x then Some x else first_waiting xs)
    by_test true is rest = rw (blank_waits_not x is) rest
    by_test false is rest = refl

-- and behind any that are blanks
first-behind : (front line : List Item) → AllByRecursion (λ x. x.state ≡ Blank) front → first_waiting (front ++ line) ≡ first_waiting line
unfolding first_waiting
first-behind [] line blanks = refl
first-behind (x ∷ xs) line blanks = rw (blanks.0) (first-behind xs line blanks.1)

-- an end that is told leaves the first that waits
first-line_after : (line : List Item) (k code : ℕ) → EndsFirst line k code → first_waiting (line_after k code line) ≡ first_waiting line
unfolding first_waiting
first-line_after line k code f = by_test (halts code) ∙ sym (ap first_waiting f.split ∙ (first-behind f.front (f.item ∷ past_number k line) f.blanks ∙ rw (f.served) refl))
  where
    by_test : (b : Bool) → first_waiting (if b then past_number k line else past_blanks (past_number k line)) ≡ first_waiting (past_number k line)
    by_test true = refl
    by_test false = first-past_blanks (past_number k line)

-- an endpoint with all that the reply to a packet reads, and nothing else
abbrev bare : Bool → List Response → Endpoint
bare halted script = record { line = []; script_left = script; device_halted = halted; packets_received = []; state = Running; errand = None }

serve_bare : (size : ℕ) (gone : Bool) (e : Endpoint) (s : EndpointState) (o : Option Item) → (serve_first size gone e s o).reply ≡ (serve_first size gone (bare e.device_halted e.script_left) s o).reply
unfolding serve_first serve_gone serve_by
serve_bare size true e Running (Some x) = refl
serve_bare size false e Running (Some x) = by_code (unwrap_or (outcome x.request size (x.share ++ next_answer e) e.device_halted) (open_with [])).code
  where
    after : Outcome
    after = unwrap_or (outcome x.request size (x.share ++ next_answer e) e.device_halted) (open_with [])

    by_code : (code : Option ℕ) → (serve_by e x (outcome_of size x) after code).reply ≡ (serve_by (bare e.device_halted e.script_left) x (outcome_of size x) after code).reply
    by_code None = refl
    by_code (Some code) = refl
serve_bare size gone e _ _ = refl

-- where all that is the same, the next packet is
same_served : (size : ℕ) (gone : Bool) (e f : Endpoint) → f.state ≡ e.state → f.script_left ≡ e.script_left → f.device_halted ≡ e.device_halted → first_waiting f.line ≡ first_waiting e.line → is_served size gone f ≡ is_served size gone e
unfolding serve
same_served size gone e f state script halted first =
    rw (serve_bare size gone f f.state (first_waiting f.line), serve_bare size gone e e.state (first_waiting e.line), state, script, halted, first) refl

-- what is said of an event
abbrev pub said_of : ℕ → Event → Reply
said_of ep (Finished n code) = reply.Finished n
said_of ep (Paused n) = reply.Paused n
said_of ep (Settled errand ok) = reply.Settled ep errand ok

-- a choice of two works
either : (b : Bool) (x y : EndpointEffect) (r : Reply) → x.reply ≡ r → y.reply ≡ r → (if b then x else y).reply ≡ r
either true x y r p q = p
either false x y r p q = q

resume_says : (size : ℕ) (e : Endpoint) (r : Reply) (line : List Item) → (resume size e r line).reply ≡ r
unfolding resume
resume_says size e r line = either (leads_blank (map blanked line)) _ _ r refl refl

pub deliver_says : (size ep : ℕ) (gone : Bool) (e : Endpoint) (event : Event) → (deliver size ep gone e event).reply ≡ said_of ep event
unfolding deliver
deliver_says size ep gone e (Paused n) = refl
deliver_says size ep gone e (Finished n code) = either (needs_reset code e.errand) _ _ (reply.Finished n) refl refl
deliver_says size ep gone e (Settled errand.Stop false) = refl
deliver_says size ep gone e (Settled errand.Stop true) = resume_says size e _ e.line
deliver_says size ep gone e (Settled errand.Reset ok) = refl
deliver_says size ep gone e (Settled errand.Move ok) = resume_says size e _ (past_blanks e.line)

-- whether it settled an errand
abbrev pub says_settled : Reply → Bool
says_settled (reply.Settled ep errand ok) = true
says_settled _ = false

-- an event that settles no errand leaves what the next packet does
pub deliver_leaves : (size at ep : ℕ) (away gone : Bool) (e : Endpoint) (os : List Errand) (event : Event) (ns : List Event) → IsCoherent e os (event ∷ ns)
    → (says_settled (said_of ep event) ≡ true) ⊎ (is_served at gone (deliver size ep away e event).endpoint ≡ is_served at gone e)
unfolding deliver
deliver_leaves size at ep away gone e os (Settled errand ok) ns c = inl refl
deliver_leaves size at ep away gone e os (Paused n) ns c = inr refl
deliver_leaves size at ep away gone e os (Finished n code) ns c = inr (by_test (needs_reset code e.errand))
  where
    after : Endpoint
    after = record e { line = line_after n code e.line }

    results : List TransferResult
    results = finished_result size away code (in_progress n e.line)

    by_test : (b : Bool) → is_served at gone (if b then orders_errand after errand.Reset (reply.Finished n) results else record { reply = reply.Finished n; endpoint = after; orders = []; news = []; results = results }).endpoint ≡ is_served at gone e
    by_test true = same_served at gone e (record after { errand = Some errand.Reset }) refl refl refl (first-line_after e.line n code (end_told e os ns n code c))
    by_test false = same_served at gone e after refl refl refl (first-line_after e.line n code (end_told e os ns n code c))

-- with no answer left a packet that isn't ready leaves the next one so
naks : (size : ℕ) (e : Endpoint) (y : Item) → e.state ≡ Running → first_waiting e.line ≡ Some y → e.script_left ≡ [] → (unwrap_or (outcome y.request size y.share e.device_halted) (open_with [])).code ≡ None → is_served size false e ≡ false
unfolding serve serve_first serve_by
naks size e y runs first empty going = rw (runs, first, empty, none e.device_halted, append-nil y.share, going) (rw (none e.device_halted) refl)
  where
    none : (b : Bool) → (if b then [] else take {A = Response} 1 []) ≡ []
    none true = refl
    none false = refl

-- no answer is left
none_left : (script : List Response) → nat_lt 0 (length script) ≡ false → script ≡ []
none_left [] e = refl
none_left (x ∷ xs) e = absurd (omega (arith, ltb-false 0 (length (x ∷ xs)) e))

-- a packet that does nothing found no answer
found_none : (left b : Bool) (n k : ℕ) → tells_work left (if b then reply.Nak n else reply.Moved n k) ≡ false → left ≡ false
found_none left true n k e = e
found_none left false n k e = absurd cc

-- where a packet does nothing, the next one does nothing
pub idle_again : (size : ℕ) (gone : Bool) (e : Endpoint) → is_served size gone e ≡ false → is_served size gone (serve size gone e).endpoint ≡ false
unfolding serve serve_first serve_gone serve_by
idle_again size gone e idle = by_parts gone idle e.state refl (first_waiting e.line) refl idle
  where
    left : Bool
    left = nat_lt 0 (length e.script_left)

    after : Item → Outcome
    after x = unwrap_or (outcome x.request size (x.share ++ next_answer e) e.device_halted) (open_with [])

    by_code : (x : Item) → e.state ≡ Running → first_waiting e.line ≡ Some x → (code : Option ℕ) → (after x).code ≡ code → tells_work left (serve_by e x (outcome_of size x) (after x) code).reply ≡ false → is_served size false (serve_by e x (outcome_of size x) (after x) code).endpoint ≡ false
    by_code x runs first (Some code) is i = absurd cc
    by_code x runs first None is i =
        let y : Item = record x { share = x.share ++ next_answer e } in
        let empty : e.script_left ≡ [] = none_left e.script_left (found_none left (is_no_packet (next_answer e)) x.n _ i) in
        naks size (answered e x y (outcome_of size x) (after x)) y runs (first_replaced e.line x y first (first_waits e.line x first)) (ap (drop (length (next_answer e))) empty ∙ drop-nil (length (next_answer e))) is

    by_parts : (g : Bool) → is_served size g e ≡ false → (s : EndpointState) → e.state ≡ s → (o : Option Item) → first_waiting e.line ≡ o → tells_work left (serve_first size g e s o).reply ≡ false → is_served size g (serve_first size g e s o).endpoint ≡ false
    by_parts true was Running runs (Some x) first i = absurd cc
    by_parts false was Running runs (Some x) first i = by_code x runs first (after x).code refl i
    by_parts true was Running runs None first i = was
    by_parts false was Running runs None first i = was
    by_parts true was Stopped runs None first i = was
    by_parts false was Stopped runs None first i = was
    by_parts true was Stopped runs (Some x) first i = was
    by_parts false was Stopped runs (Some x) first i = was
    by_parts true was Halted runs None first i = was
    by_parts false was Halted runs None first i = was
    by_parts true was Halted runs (Some x) first i = was
    by_parts false was Halted runs (Some x) first i = was

-- a packet that ends a transfer says so
abbrev pub says_ended : Reply → Bool
says_ended (reply.Ended n code) = true
says_ended _ = false

-- a packet orders nothing and makes no result; and it has no event, unless it ends a transfer
pub record PostsEnds (d : EndpointEffect) : Type 0 where
  pub orders : d.orders ≡ []
  pub results : d.results ≡ []
  pub news : (says_ended d.reply ≡ true) ⊎ (d.news ≡ [])

pub serve_posts : (size : ℕ) (gone : Bool) (e : Endpoint) → PostsEnds (serve size gone e)
unfolding serve serve_first serve_gone serve_by
serve_posts size gone e = by_parts gone e.state (first_waiting e.line)
  where
    after : Item → Outcome
    after x = unwrap_or (outcome x.request size (x.share ++ next_answer e) e.device_halted) (open_with [])

    by_code : (x : Item) (before after : Outcome) (code : Option ℕ) → PostsEnds (serve_by e x before after code)
    by_code x before after None = record { orders = refl; results = refl; news = inr refl }
    by_code x before after (Some code) = record { orders = refl; results = refl; news = inl refl }

    by_parts : (g : Bool) (s : EndpointState) (o : Option Item) → PostsEnds (serve_first size g e s o)
    by_parts true Running (Some x) = record { orders = refl; results = refl; news = inl refl }
    by_parts false Running (Some x) = by_code x (outcome_of size x) (after x) (after x).code
    by_parts true Running None = record { orders = refl; results = refl; news = inr refl }
    by_parts false Running None = record { orders = refl; results = refl; news = inr refl }
    by_parts true Stopped None = record { orders = refl; results = refl; news = inr refl }
    by_parts false Stopped None = record { orders = refl; results = refl; news = inr refl }
    by_parts true Stopped (Some x) = record { orders = refl; results = refl; news = inr refl }
    by_parts false Stopped (Some x) = record { orders = refl; results = refl; news = inr refl }
    by_parts true Halted None = record { orders = refl; results = refl; news = inr refl }
    by_parts false Halted None = record { orders = refl; results = refl; news = inr refl }
    by_parts true Halted (Some x) = record { orders = refl; results = refl; news = inr refl }
    by_parts false Halted (Some x) = record { orders = refl; results = refl; news = inr refl }
