-- What each step does to the transfers of a machine.
use Rattle.std.proofs.Common.{◌≡◌, ℕ, ◌+◌, ◌==◌, Bool, true, false, not, inl, inr, List, [], ◌∷◌, Option, Some, None, refl, ap, sym, ◌∙◌, subst, arith, append-nil}
use Rattle.std.specs.Prelude.{if◌then◌else◌}
use Rattle.std.specs.Option.{unwrap_or, option_and_then}
use Rattle.std.proofs.lemmas.Bool.{eqb-true}
use Rattle.usb_model.specs.declared.request.Request.{Request}
use Rattle.usb_model.specs.declared.errand.Errand.{Errand}
use Rattle.usb_model.specs.declared.reply.Reply.{Reply}
use Rattle.usb_model.specs.declared.reply.Reply.TheVariants as reply
use Rattle.usb_model.specs.declared.setup.EndpointInfo.{EndpointInfo}
use Rattle.usb_model.specs.declared.step.Step.{Step}
use Rattle.usb_model.specs.declared.step.Step.TheVariants.{Open, Close, Claim, Release, Reset, ClearHalt, Submit, Cancel, Expire, Serve, Command, Deliver, Take, Answer, Unplug}
use Rattle.usb_model.specs.declared.verdict.Verdict.{Verdict}
use Rattle.usb_model.specs.declared.verdict.Verdict.TheVariants as verdict
use Rattle.usb_model.specs.declared.endpoint.Endpoint.{Endpoint}
use Rattle.usb_model.specs.declared.endpoint.EndpointState.{EndpointState}
use Rattle.usb_model.specs.declared.handle.Handle.{Handle}
use Rattle.usb_model.specs.declared.item.Ask.{Ask}
use Rattle.usb_model.specs.declared.item.Ask.TheVariants as ask
use Rattle.usb_model.specs.declared.item.Item.{Item}
use Rattle.usb_model.specs.declared.news.Event.{Event}
use Rattle.usb_model.specs.declared.news.News.{News}
use Rattle.usb_model.specs.declared.order.Order.{Order}
use Rattle.usb_model.specs.declared.result.InCallback.{InCallback}
use Rattle.usb_model.specs.declared.result.TransferResult.{TransferResult}
use Rattle.usb_model.specs.Setup.{Setup, is_device, packet_size_of}
use Rattle.usb_model.specs.Endpoint.{in_progress}
use Rattle.usb_model.specs.declared.endpoint_effect.EndpointEffect.{EndpointEffect}
use Rattle.usb_model.specs.Endpoint.Serve.{serve}
use Rattle.usb_model.specs.Endpoint.Command.{command}
use Rattle.usb_model.specs.Endpoint.Deliver.{deliver}
use Rattle.usb_model.specs.Machine.{Machine, device_of, endpoint_at, does, at_endpoint}
use Rattle.usb_model.specs.declared.effect.Change.TheVariants.{Keeps, Gains, Drops, Renews, Sets}
use Rattle.usb_model.specs.Machine.Calls.{open_effect, close_effect, claim_effect, release_effect, reset_effect, clear_halt_effect, submitted, submit_to, submit_effect, Home, home_by, home_in, home_of, asks, ask_in_progress, ask_effect, callback_of, called_back, answer_callback, answer_effect}
use Rattle.usb_model.specs.Machine.Turns.{serve_effect, command_order, command_effect, deliver_news, deliver_effect, take_effect, effect, takes_result, ends_after, machine_after}
use Rattle.proof_model.proofs.Lists.Parts.{IsPart, whole}
use Rattle.proof_model.proofs.Work.Lines.{Key, keys, lives-push, keys-push, IsSound}
use Rattle.proof_model.proofs.Work.Replies.{told_plain, serve_told, command_told, deliver_told, asks_told}
use Rattle.proof_model.proofs.Work.Sound.{serve_makes_none, serve_sound, command_sound, deliver_sound, ask_sound}
use Rattle.proof_model.proofs.Work.Moves.{keys_of, keys_at, Moves, MovesBy, IsPlain, quiet, says_moves, does_moves, frees_moves, refused_moves, sets_here, sets_other}

-- work at an endpoint of the machine
doing_moves : (setup : Setup) (h : ℕ) (m : Machine) (step : Step) (ep : ℕ) (e : Endpoint) (d : EndpointEffect) → IsPlain d.reply → takes_result step ≡ false → endpoint_at m ep ≡ Some e → IsSound e d
    → MovesBy setup h m step (at_endpoint m.handle (device_of m) ep d)
unfolding machine_after at_endpoint
doing_moves setup h m step ep e d plain stays here sound = inl (record {
  ep = ep;
  made = d.results;
  calls = plain.0;
  gives = plain.1;
  next_number = refl;
  results = rw stays;
  once = λ n. rw (after, here) (sound.once n);
  ordered_at = rw (after, here) sound.ordered_at;
  others = λ at differ. rw (sets_other setup m.endpoints m.handle.device ep at d.endpoint differ) (whole (keys_at m at));
})
  where
    after : option_and_then (λ k. ends_after setup m.endpoints (Sets (device_of m) ep d.endpoint) k ep) m.handle.device ≡ Some d.endpoint
    after = sets_here setup m.endpoints m.handle.device ep e d.endpoint here

-- a submission
submitted_moves : (setup : Setup) (h : ℕ) (m : Machine) (step : Step) (handle : Handle) (request : Request) (round : ℕ) (e : Endpoint) → takes_result step ≡ false → handle.device ≡ m.handle.device → endpoint_at m request.ep ≡ Some e
    → MovesBy setup h m step (at_endpoint (record handle { next_number = m.handle.next_number + 1 }) (device_of m) request.ep (submitted m.handle.next_number request round e))
unfolding machine_after at_endpoint
submitted_moves setup h m step handle request round e stays same here = inr (inl (record {
  ep = request.ep;
  calls = refl;
  gives = refl;
  next_number = refl;
  results = rw stays (append-nil m.results);
  here = rw (same, after, here) (lives-push e.line m.handle.next_number request round);
  key_here = rw (same, after, here) (keys-push e.line m.handle.next_number request round);
  others = λ at differ. rw (same, sets_other setup m.endpoints m.handle.device request.ep at (submitted m.handle.next_number request round e).endpoint differ);
}))
  where
    after : option_and_then (λ k. ends_after setup m.endpoints (Sets (device_of m) request.ep (submitted m.handle.next_number request round e).endpoint) k request.ep) m.handle.device ≡ Some (submitted m.handle.next_number request round e).endpoint
    after = sets_here setup m.endpoints m.handle.device request.ep e (submitted m.handle.next_number request round e).endpoint here

-- it may be refused, at an endpoint that may be the handle's
submit_at_moves : (setup : Setup) (h : ℕ) (m : Machine) (step : Step) (handle : Handle) (request : Request) (round : ℕ) (o : Option Endpoint) → takes_result step ≡ false → handle.device ≡ m.handle.device → endpoint_at m request.ep ≡ o
    → MovesBy setup h m step (submit_to setup m handle request round o)
unfolding submit_to
submit_at_moves setup h m step handle request round None stays same here = says_moves setup h m step _ (refl, refl) stays
submit_at_moves setup h m step handle request round (Some e) stays same here =
    refused_moves setup h m step _ _ _ stays (refused_moves setup h m step _ _ _ stays (refused_moves setup h m step _ _ _ stays (refused_moves setup h m step _ _ _ stays (refused_moves setup h m step _ _ _ stays
    (submitted_moves setup h m step handle request round e stays same here)))))

-- at the endpoint of the request
submit_moves : (setup : Setup) (h : ℕ) (m : Machine) (step : Step) (handle : Handle) (request : Request) (round : ℕ) → takes_result step ≡ false → handle.device ≡ m.handle.device
    → MovesBy setup h m step (submit_effect setup m handle request round)
unfolding submit_effect
submit_moves setup h m step handle request round stays same = submit_at_moves setup h m step handle request round (endpoint_at m request.ep) stays same refl

-- the replies of work at an endpoint
plain_if : (b : Bool) (x y : Reply) → IsPlain x → IsPlain y → IsPlain (if b then x else y)
plain_if true x y p q = p
plain_if false x y p q = q

-- of a packet, which makes no result
pub plain_serve : (size : ℕ) (gone : Bool) (e : Endpoint) → IsPlain (serve size gone e).reply × ((serve size gone e).results ≡ [])
plain_serve size gone e = (told_plain _ (serve_told size gone e), serve_makes_none size gone e)

-- of an order
pub plain_command : (size ep : ℕ) (e : Endpoint) (errand : Errand) (s : EndpointState) → IsPlain (command size ep e errand s).reply
plain_command size ep e errand s = told_plain _ (command_told size ep e errand s)

-- of a piece of news
pub plain_deliver : (size ep : ℕ) (gone : Bool) (e : Endpoint) (event : Event) → IsPlain (deliver size ep gone e event).reply
plain_deliver size ep gone e event = told_plain _ (deliver_told size ep gone e event)

-- of an ask
pub plain_asked : (e : Endpoint) (n : ℕ) (ask : Ask) → IsPlain (asks e n ask).reply
plain_asked e n ask = told_plain _ (asks_told e n ask)

-- a served endpoint of another device is none of the handle's own device
serve_elsewhere : (setup : Setup) (ends : ℕ → ℕ → Option Endpoint) (device : Option ℕ) (dev ep at : ℕ) (y : Endpoint) → ((d : ℕ) → device ≡ Some d → (dev == d) ≡ false)
    → option_and_then (λ d. ends_after setup ends (Sets dev ep y) d at) device ≡ option_and_then (λ d. ends d at) device
serve_elsewhere setup ends None dev ep at y apart = refl
serve_elsewhere setup ends (Some d) dev ep at y apart = rw (apart d refl)

-- a packet, at an endpoint of the handle's device or of another
serve_it_moves : (setup : Setup) (h : ℕ) (m : Machine) (dev ep : ℕ) (o : Option Endpoint) → m.endpoints dev ep ≡ o → MovesBy setup h m (Serve dev ep) (serve_effect setup m dev ep o)
unfolding serve_effect at_endpoint
serve_it_moves setup h m dev ep None here = says_moves setup h m (Serve dev ep) reply.Idle (refl, refl) refl
serve_it_moves setup h m dev ep (Some e) here = by_device m.handle.device refl
  where
    work : EndpointEffect
    work = serve (packet_size_of setup dev ep) (m.gone dev) e

    plain : IsPlain work.reply × (work.results ≡ [])
    plain = plain_serve (packet_size_of setup dev ep) (m.gone dev) e

    apart_moves : ((d : ℕ) → m.handle.device ≡ Some d → (dev == d) ≡ false) → MovesBy setup h m (Serve dev ep) (at_endpoint m.handle dev ep work)
    apart_moves apart = quiet setup h m (Serve dev ep) (at_endpoint m.handle dev ep work) plain.0 refl refl plain.1
        (λ at. rw (serve_elsewhere setup m.endpoints m.handle.device dev ep at work.endpoint apart) (whole (keys_at m at)))

    by_test : (d : ℕ) (b : Bool) → m.handle.device ≡ Some d → (dev == d) ≡ b → MovesBy setup h m (Serve dev ep) (at_endpoint m.handle dev ep work)
    by_test d true is same =
        let its : device_of m ≡ dev = ap (λ o. unwrap_or o 0) is ∙ sym (eqb-true dev d same) in
        let there : endpoint_at m ep ≡ Some e = ap (option_and_then (λ k. m.endpoints k ep)) is ∙ (ap (λ k. m.endpoints k ep) (sym (eqb-true dev d same)) ∙ here) in
        subst (λ k. MovesBy setup h m (Serve dev ep) (at_endpoint m.handle k ep work)) its (doing_moves setup h m (Serve dev ep) ep e work plain.0 refl there (serve_sound _ (m.gone dev) e))
    by_test d false is differ = apart_moves (λ k q. let same : k ≡ d = cc in rw same differ)

    by_device : (o : Option ℕ) → m.handle.device ≡ o → MovesBy setup h m (Serve dev ep) (at_endpoint m.handle dev ep work)
    by_device None is = apart_moves (λ k q. absurd cc)
    by_device (Some d) is = by_test d (dev == d) is refl

-- an order, at an endpoint that may be the handle's
command_at_moves : (setup : Setup) (h : ℕ) (m : Machine) (order : Order) (o : Option Endpoint) → endpoint_at m order.ep ≡ o → MovesBy setup h m Command (command_order setup m order o)
unfolding command_order
command_at_moves setup h m order None here = says_moves setup h m Command reply.Idle (refl, refl) refl
command_at_moves setup h m order (Some e) here = doing_moves setup h m Command order.ep e _ (plain_command _ _ e _ _) refl here (command_sound _ order.ep e _ _)

-- the first order
command_it_moves : (setup : Setup) (h : ℕ) (m : Machine) (orders : List Order) → MovesBy setup h m Command (command_effect setup m orders)
unfolding command_effect
command_it_moves setup h m [] = says_moves setup h m Command reply.Idle (refl, refl) refl
command_it_moves setup h m (order ∷ orders) = command_at_moves setup h m order (endpoint_at m order.ep) refl

-- a piece of news, at an endpoint that may be the handle's
deliver_at_moves : (setup : Setup) (h : ℕ) (m : Machine) (news : News) (o : Option Endpoint) → endpoint_at m news.ep ≡ o → MovesBy setup h m Deliver (deliver_news setup m news o)
unfolding deliver_news
deliver_at_moves setup h m news None here = says_moves setup h m Deliver reply.Idle (refl, refl) refl
deliver_at_moves setup h m news (Some e) here = doing_moves setup h m Deliver news.ep e _ (plain_deliver _ _ _ e _) refl here (deliver_sound _ news.ep _ e _)

-- the first piece of news
deliver_it_moves : (setup : Setup) (h : ℕ) (m : Machine) (news : List News) → MovesBy setup h m Deliver (deliver_effect setup m news)
unfolding deliver_effect
deliver_it_moves setup h m [] = says_moves setup h m Deliver reply.Idle (refl, refl) refl
deliver_it_moves setup h m (news ∷ rest) = deliver_at_moves setup h m news (endpoint_at m news.ep) refl

-- where a transfer is in progress, it is there
abbrev pub IsHome : Machine → ℕ → Option Home → Type 0
IsHome m n None = Unit {0}
IsHome m n (Some home) = (endpoint_at m home.ep ≡ Some home.endpoint) × (in_progress n home.endpoint.line ≡ Some home.item)

-- the endpoint at which a transfer is in progress
pub home_is : (m : Machine) (n : ℕ) (xs : List EndpointInfo) → IsHome m n (home_of m n xs)
unfolding home_of
home_is m n [] = tt
home_is m n (x ∷ xs) = by_end (endpoint_at m x.address) refl (home_is m n xs)
  where
    by_item : (e : Endpoint) (i : Option Item) → endpoint_at m x.address ≡ Some e → in_progress n e.line ≡ i → IsHome m n (home_of m n xs) → IsHome m n (home_by x.address e (home_of m n xs) i)
    by_item e None here is rest = rest
    by_item e (Some i) here is rest = (here, is)

    by_end : (o : Option Endpoint) → endpoint_at m x.address ≡ o → IsHome m n (home_of m n xs) → IsHome m n (home_in n x.address o (home_of m n xs))
    by_end None here rest = rest
    by_end (Some e) here rest = by_item e (in_progress n e.line) here refl rest

-- an ask, by where the transfer is in progress
ask_at_moves : (setup : Setup) (h : ℕ) (m : Machine) (step : Step) (n : ℕ) (ask : Ask) (timed : Bool) (o : Option Home) → takes_result step ≡ false → IsHome m n o → MovesBy setup h m step (ask_in_progress m n ask timed o)
unfolding ask_in_progress
ask_at_moves setup h m step n ask timed None stays home = says_moves setup h m step _ (refl, refl) stays
ask_at_moves setup h m step n ask timed (Some home) stays is =
    refused_moves setup h m step _ _ _ stays (doing_moves setup h m step home.ep home.endpoint _ (plain_asked home.endpoint n ask) stays is.0 (ask_sound home.endpoint n ask))

-- an ask
ask_it_moves : (setup : Setup) (h : ℕ) (m : Machine) (step : Step) (n : ℕ) (ask : Ask) (timed : Bool) → takes_result step ≡ false → MovesBy setup h m step (ask_effect setup m n ask timed)
unfolding ask_effect
ask_it_moves setup h m step n ask timed stays = ask_at_moves setup h m step n ask timed _ stays (home_is m n _)

-- the first result
take_it_moves : (setup : Setup) (h : ℕ) (m : Machine) (results : List TransferResult) → m.results ≡ results → MovesBy setup h m Take (take_effect h m results)
unfolding take_effect machine_after
take_it_moves setup h m [] is = inl (record {
  ep = 0;
  made = [];
  calls = refl;
  gives = refl;
  next_number = refl;
  results = rw is;
  once = λ n. omega arith;
  ordered_at = whole (keys_at m 0);
  others = λ at differ. whole (keys_at m at);
})
take_it_moves setup h m (x ∷ xs) is = inr (inr (record {
  result = x;
  calls = refl;
  gives = refl;
  next_number = refl;
  results = rw is (ap (λ l. x ∷ l) (sym (append-nil xs)));
  others = λ at. refl;
}))

-- a verdict, by the transfer in its callback
answer_at_moves : (setup : Setup) (h : ℕ) (m : Machine) (step : Step) (v : Verdict) (o : Option InCallback) → takes_result step ≡ false → MovesBy setup h m step (answer_callback setup m v o)
unfolding answer_callback
answer_at_moves setup h m step v None stays = says_moves setup h m step _ (refl, refl) stays
answer_at_moves setup h m step verdict.Stop (Some x) stays = does_moves setup h m step (called_back m x.n) Keeps stays refl refl tt
answer_at_moves setup h m step verdict.Again (Some x) stays = submit_moves setup h m step _ _ _ stays refl
answer_at_moves setup h m step (verdict.AgainWith bytes) (Some x) stays = submit_moves setup h m step _ _ _ stays refl

-- a verdict
answer_moves : (setup : Setup) (h : ℕ) (m : Machine) (step : Step) (n : ℕ) (v : Verdict) → takes_result step ≡ false → MovesBy setup h m step (answer_effect setup m n v)
unfolding answer_effect
answer_moves setup h m step n v stays = answer_at_moves setup h m step v (callback_of n m.handle.in_callbacks) stays

-- the end of a halt, which leaves the line
clear_moves : (setup : Setup) (h : ℕ) (m : Machine) (step : Step) (ep : ℕ) (o : Option Endpoint) → takes_result step ≡ false → endpoint_at m ep ≡ o → MovesBy setup h m step (clear_halt_effect m ep o)
unfolding clear_halt_effect
clear_moves setup h m step ep None stays here = says_moves setup h m step _ (refl, refl) stays
clear_moves setup h m step ep (Some e) stays here =
    refused_moves setup h m step _ _ _ stays (refused_moves setup h m step _ _ _ stays (quiet setup h m step _ (refl, refl) stays refl refl (λ at. by_test at (ep == at) refl)))
  where
    cleared : Endpoint
    cleared = record e { device_halted = false }

    after : ℕ → List Key
    after at = keys_of (option_and_then (λ d. ends_after setup m.endpoints (Sets (device_of m) ep cleared) d at) m.handle.device)

    by_test : (at : ℕ) (b : Bool) → (ep == at) ≡ b → IsPart (after at) (keys_at m at)
    by_test at true is = subst (λ k. IsPart (after k) (keys_at m k)) (eqb-true ep at is) (rw (sets_here setup m.endpoints m.handle.device ep e cleared here, here) (whole (keys e.line)))
    by_test at false differ = rw (sets_other setup m.endpoints m.handle.device ep at cleared differ) (whole (keys_at m at))

-- a claim
claim_moves : (setup : Setup) (h : ℕ) (m : Machine) (step : Step) (i : ℕ) → takes_result step ≡ false → MovesBy setup h m step (claim_effect setup m i)
unfolding claim_effect
claim_moves setup h m step i stays =
    refused_moves setup h m step _ _ _ stays (refused_moves setup h m step _ _ _ stays (refused_moves setup h m step _ _ _ stays (by_test (m.held (device_of m) i))))
  where
    by_test : (b : Bool) → MovesBy setup h m step (does m.handle (if b then Keeps else Gains (device_of m) i))
    by_test true = does_moves setup h m step m.handle Keeps stays refl refl tt
    by_test false = does_moves setup h m step m.handle (Gains (device_of m) i) stays refl refl tt

-- each step moves the transfers in one of the three ways
pub moves : (setup : Setup) (h : ℕ) (m : Machine) (step : Step) → Moves h m (machine_after setup m step (effect setup h m step)) (effect setup h m step).reply
unfolding effect open_effect close_effect release_effect reset_effect
moves setup h m (Open g dev) =
    refused_moves setup h m (Open g dev) _ _ _ refl (refused_moves setup h m (Open g dev) _ _ _ refl (refused_moves setup h m (Open g dev) _ _ _ refl (frees_moves setup h m (Open g dev) _ refl refl)))
moves setup h m (Close g) = refused_moves setup h m (Close g) _ _ _ refl (refused_moves setup h m (Close g) _ _ _ refl (frees_moves setup h m (Close g) _ refl refl))
moves setup h m (Claim g i) = claim_moves setup h m (Claim g i) i refl
moves setup h m (Release g i) =
    refused_moves setup h m (Release g i) _ _ _ refl (refused_moves setup h m (Release g i) _ _ _ refl (does_moves setup h m (Release g i) m.handle (Drops (device_of m) i) refl refl refl tt))
moves setup h m (Reset g) =
    refused_moves setup h m (Reset g) _ _ _ refl (refused_moves setup h m (Reset g) _ _ _ refl (refused_moves setup h m (Reset g) _ _ _ refl (does_moves setup h m (Reset g) m.handle (Renews (device_of m)) refl refl refl tt)))
moves setup h m (ClearHalt g ep) = clear_moves setup h m (ClearHalt g ep) ep (endpoint_at m ep) refl refl
moves setup h m (Submit g request) = submit_moves setup h m (Submit g request) m.handle request 0 refl refl
moves setup h m (Cancel g n) = ask_it_moves setup h m (Cancel g n) n ask.Cancel false refl
moves setup h m (Expire g n) = ask_it_moves setup h m (Expire g n) n ask.Time true refl
moves setup h m (Serve dev ep) = serve_it_moves setup h m dev ep (m.endpoints dev ep) refl
moves setup h m Command = command_it_moves setup h m m.orders
moves setup h m Deliver = deliver_it_moves setup h m m.news
moves setup h m Take = take_it_moves setup h m m.results refl
moves setup h m (Answer g n v) = answer_moves setup h m (Answer g n v) n v refl
moves setup h m (Unplug dev) = says_moves setup h m (Unplug dev) _ (plain_if (not (is_device setup dev)) _ _ (refl, refl) (plain_if (m.gone dev) _ _ (refl, refl) (refl, refl))) refl
