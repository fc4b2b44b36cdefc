-- A transfer takes an answer that leaves it open.
use Rattle.std.proofs.Common.{◌≡◌, ℕ, ◌+◌, ◌-◌, ◌*◌, ◌<◌, ◌≤◌, zero, suc, Bool, true, false, List, [], ◌∷◌, ◌++◌, length, map, take, drop, Option, Some, None, refl, sym, ap, ap₂, ◌∙◌, subst, length-append, length-take-le, arith}
use Rattle.std.specs.Prelude.{if◌then◌else◌}
use Rattle.std.specs.List.{concat}
use Rattle.std.specs.Option.{unwrap_or}
use Rattle.std.proofs.lemmas.List.{drop-take, take-append-drop}
use Rattle.std.proofs.lemmas.List.Folds.{concat-append}
use Rattle.std.proofs.Math.Nat.{mul-sub, mul_comm}
use Rattle.usb_model.specs.declared.response.Response.{Response}
use Rattle.usb_model.specs.declared.response.Response.TheVariants as response
use Rattle.usb_model.specs.declared.response.Response.TheVariants.{Data, Ack, Stall, Broken}
use Rattle.usb_model.specs.declared.request.Body.{Body}
use Rattle.usb_model.specs.declared.request.Body.TheVariants.{In, Out}
use Rattle.usb_model.specs.declared.request.Request.{Request}
use Rattle.usb_model.specs.declared.reply.Reply.{Reply}
use Rattle.usb_model.specs.declared.reply.Reply.TheVariants.{Nak, Moved}
use Rattle.usb_model.specs.declared.item.Item.{Item}
use Rattle.usb_model.specs.declared.endpoint.Endpoint.{Endpoint}
use Rattle.usb_model.specs.declared.endpoint.EndpointState.TheVariants.{Running}
use Rattle.usb_model.specs.declared.outcome.Outcome.{Outcome}
use Rattle.usb_model.specs.declared.endpoint_effect.EndpointEffect.{EndpointEffect}
use Rattle.usb_model.specs.Endpoint.{only_says, outcome_of, with_first}
use Rattle.usb_model.specs.Endpoint.Packets.{count_of, open_with, outcome, packets_by, without_naks}
use Rattle.usb_model.specs.Endpoint.Serve.{acknowledged, answered, is_no_packet, next_answer, serve_by, serve_first}
use Rattle.reference.specs.declared.progress.Progress.{Progress}
use Rattle.proof_model.proofs.Shares.OpenShares.{naks-append}
use Rattle.reference.specs.Moved.{data_of, outcome_after, packets_of_answer}
use Rattle.reference.specs.Progress.{AreMoved, GoesOn, HasMoved, bytes_by, sent_by}

-- the packets that a device receives are those between
received : (request : Request) (size before after : ℕ) (body : Body) (xs ys : List Response) (ps qs : List (List ℕ)) → AreMoved request size body xs before ps → AreMoved request size body ys after qs
    → acknowledged body (open_with ps) (open_with qs) ≡ sent_by request size body before after
received request size before after (In n) xs ys ps qs was is = refl
received request size before after (Out bytes) xs ys ps qs was is =
    let all : List (List ℕ) = packets_by request size (Out bytes) in
    let many : length ps ≡ before = ap length was.0 ∙ length-take-le before all (omega (arith, was.1)) in
    ap₂ (λ n l. drop n l) many is.0

-- the first so many of more are the first so many
take_fewer : {A : Type 0} (a b : ℕ) (l : List A) → a ≤ b → take a (take b l) ≡ take a l
take_fewer zero b l few = refl
take_fewer (suc a) zero l few = absurd (omega (arith, few))
take_fewer (suc a) (suc b) [] few = refl
take_fewer (suc a) (suc b) (x ∷ l) few = ap (λ m. x ∷ m) (take_fewer a b l (omega (arith, few)))

-- the bytes that move are those between
bytes_more : (request : Request) (size before after : ℕ) (body : Body) (xs ys : List Response) (ps qs : List (List ℕ)) → before ≤ after → AreMoved request size body xs before ps
    → AreMoved request size body ys after qs → count_of (open_with qs) - count_of (open_with ps) ≡ bytes_by body size before after (length (concat (sent_by request size body before after)))
bytes_more request size before after (In n) xs ys ps qs rises was is =
    let product : (after - before) * size ≡ after * size - before * size = mul_comm (after - before) size ∙ mul-sub size after before ∙ ap₂ (λ a b. a - b) (mul_comm size after) (mul_comm size before) in
    ap₂ (λ a b. a - b) is.2 was.2 ∙ sym product
bytes_more request size before after (Out bytes) xs ys ps qs rises was is =
    let all : List (List ℕ) = packets_by request size (Out bytes) in
    let parts : take after all ≡ take before all ++ drop before (take after all) =
    sym (take-append-drop before (take after all)) ∙ ap (λ l. l ++ drop before (take after all)) (take_fewer before after all rises) in
    let whole : length (concat (take after all)) ≡ length (concat (take before all)) + length (concat (drop before (take after all))) =
    ap (λ l. length (concat l)) parts ∙ ap length (concat-append (take before all) (drop before (take after all))) ∙ length-append (concat (take before all)) (concat (drop before (take after all))) in
    let last : length (concat qs) ≡ length (concat (take after all)) = ap (λ l. length (concat l)) is.0 in
    let first : length (concat ps) ≡ length (concat (take before all)) = ap (λ l. length (concat l)) was.0 in
    omega (arith, whole, last, first)

-- one answer comes
one_comes : (e : Endpoint) (answer : Response) (rest : List Response) → e.device_halted ≡ false → e.script_left ≡ answer ∷ rest → length (next_answer e) ≡ 1
one_comes e answer rest runs comes = rw (runs, comes) refl

-- what is left of the endpoint, and what is said
pub served_on : (size : ℕ) (e : Endpoint) (x : Item) (progress : Progress) → GoesOn size e x progress
    → serve_first size false e Running (Some x) ≡ only_says (record e {
      line = with_first (record x { share = x.share ++ next_answer e }) e.line;
      script_left = drop 1 e.script_left;
      packets_received = e.packets_received ++ sent_by x.request size x.request.body progress.before progress.after;
    }) (if is_no_packet (next_answer e) then Nak x.n
    else Moved x.n (bytes_by x.request.body size progress.before progress.after (length (concat (sent_by x.request size x.request.body progress.before progress.after)))))
unfolding serve_first serve_by
served_on size e x progress goes =
    let before : Outcome = open_with goes.was.0 in
    let after : Outcome = open_with goes.is.0 in
    let behind : unwrap_or (outcome x.request size (x.share ++ next_answer e) e.device_halted) (open_with []) ≡ after =
    ap (λ b. unwrap_or (outcome x.request size (x.share ++ next_answer e) b) (open_with [])) goes.runs ∙ ap (λ o. unwrap_or o (open_with [])) goes.is.1 in
    let first : outcome_of size x ≡ before = ap (λ o. unwrap_or o (open_with [])) goes.was.1 in
    let bytes = bytes_more x.request size progress.before progress.after x.request.body x.share (x.share ++ next_answer e) goes.was.0 goes.is.0 goes.rises goes.was.2 goes.is.2 in
    let sent = received x.request size progress.before progress.after x.request.body x.share (x.share ++ next_answer e) goes.was.0 goes.is.0 goes.was.2 goes.is.2 in
    let one = one_comes e goes.comes.0 goes.comes.1 goes.runs goes.comes.2 in
    rw (behind, first, one, sent, bytes) refl

-- the packet behind those of a read
data_behind : (ps qs : List (List ℕ)) (a : Response) → map Data qs ≡ map Data ps ++ without_naks (a ∷ []) → drop (length ps) qs ≡ data_of (a ∷ [])
data_behind (p ∷ ps) (q ∷ qs) a same = data_behind ps qs a cc
data_behind (p ∷ ps) [] a same = absurd cc
data_behind [] [] (Data b) same = absurd cc
data_behind [] [] Ack same = absurd cc
data_behind [] [] Stall same = absurd cc
data_behind [] [] Broken same = absurd cc
data_behind [] [] response.Nak same = refl
data_behind [] (q ∷ qs) response.Nak same = absurd cc
data_behind [] (q ∷ qs) Ack same = absurd cc
data_behind [] (q ∷ qs) Stall same = absurd cc
data_behind [] (q ∷ qs) Broken same = absurd cc
data_behind [] (q ∷ []) (Data b) same = cc
data_behind [] (q ∷ r ∷ qs) (Data b) same = absurd cc

-- the outcomes before the answer and behind it
before_is : (size : ℕ) (e : Endpoint) (x : Item) (progress : Progress) → (goes : GoesOn size e x progress) → outcome_of size x ≡ open_with goes.was.0
before_is size e x progress goes = ap (λ o. unwrap_or o (open_with [])) goes.was.1

after_is : (size : ℕ) (e : Endpoint) (x : Item) (progress : Progress) → (goes : GoesOn size e x progress) → outcome_after size e x ≡ open_with goes.is.0
after_is size e x progress goes =
    ap (λ b. unwrap_or (outcome x.request size (x.share ++ next_answer e) b) (open_with [])) goes.runs ∙ ap (λ o. unwrap_or o (open_with [])) goes.is.1

moved_is : (size : ℕ) (e : Endpoint) (x : Item) (progress : Progress) → (goes : GoesOn size e x progress) → packets_of_answer size e x ≡ drop (length goes.was.0) goes.is.0
moved_is size e x progress goes = ap₂ (λ (o p : Outcome). drop (length o.packets) p.packets) (before_is size e x progress goes) (after_is size e x progress goes)

-- the answer is the first of the script
next_is : (e : Endpoint) (answer : Response) (rest : List Response) → e.device_halted ≡ false → e.script_left ≡ answer ∷ rest → next_answer e ≡ answer ∷ []
next_is e answer rest runs comes = rw (runs, comes) refl

-- a read moves the packet of the answer
pub read_on : (size n : ℕ) (e : Endpoint) (x : Item) (progress : Progress) → GoesOn size e x progress → x.request.body ≡ In n → packets_of_answer size e x ≡ data_of (take 1 e.script_left)
read_on size n e x progress goes body =
    let answer : Response = goes.comes.0 in
    let next = next_is e answer goes.comes.1 goes.runs goes.comes.2 in
    let was = subst (λ b. AreMoved x.request size b x.share progress.before goes.was.0) body goes.was.2 in
    let is = subst (λ b. AreMoved x.request size b (x.share ++ next_answer e) progress.after goes.is.0) body goes.is.2 in
    let more : map Data goes.is.0 ≡ map Data goes.was.0 ++ without_naks (answer ∷ []) =
    sym is.0 ∙ ap (λ l. without_naks (x.share ++ l)) next ∙ naks-append x.share (answer ∷ []) ∙ ap (λ l. l ++ without_naks (answer ∷ [])) was.0 in
    moved_is size e x progress goes ∙ data_behind goes.was.0 goes.is.0 answer more ∙ ap (λ (l : List Response). data_of (take 1 l)) (sym goes.comes.2)

-- a write moves what the device receives
pub write_on : (size : ℕ) (e : Endpoint) (x : Item) (progress : Progress) (bytes : List ℕ) → GoesOn size e x progress → x.request.body ≡ Out bytes
    → packets_of_answer size e x ≡ sent_by x.request size x.request.body progress.before progress.after
write_on size e x progress bytes goes body =
    let was = subst (λ b. AreMoved x.request size b x.share progress.before goes.was.0) body goes.was.2 in
    let is = subst (λ b. AreMoved x.request size b (x.share ++ next_answer e) progress.after goes.is.0) body goes.is.2 in
    moved_is size e x progress goes
    ∙ received x.request size progress.before progress.after (Out bytes) x.share (x.share ++ next_answer e) goes.was.0 goes.is.0 was is
    ∙ ap (λ b. sent_by x.request size b progress.before progress.after) (sym body)
