-- The end of an errand is handled: what was asked is withdrawn with the bytes that the core was told of, and the next endpoint is shown.
use Rattle.std.proofs.Common.{Bool, List, None, Option, Some, [], ap, ap₂, false, inl, inr, map, refl, subst, subst₂, sym, true, ℕ, ◌++◌, ◌∙◌, ◌∷◌, ◌≡◌, ◌⊎◌}
use Rattle.std.specs.Prelude.{if◌then◌else◌, not, is_some, ◌&&◌}
use Rattle.std.specs.Option.{option_map}
use Rattle.usb_model.specs.declared.errand.Errand.TheVariants as errand
use Rattle.usb_model.specs.declared.errand.Errand.{Errand}
use Rattle.usb_model.specs.declared.endpoint.Endpoint.{Endpoint}
use Rattle.usb_model.specs.declared.endpoint.EndpointState.TheVariants.{Halted, Running, Stopped}
use Rattle.usb_model.specs.declared.endpoint.EndpointState.{EndpointState}
use Rattle.usb_model.specs.declared.item.Item.{Item}
use Rattle.usb_model.specs.declared.item.ItemState.TheVariants.{Blank, Served, Waiting}
use Rattle.usb_model.specs.declared.item.ItemState.{ItemState}
use Rattle.usb_model.specs.declared.news.Event.TheVariants.{Finished, Settled}
use Rattle.usb_model.specs.declared.news.Event.{Event}
use Rattle.usb_model.specs.declared.result.TransferResult.{TransferResult}
use Rattle.usb_model.specs.declared.reply.Reply.{Reply}
use Rattle.usb_model.specs.declared.reply.Reply.TheVariants as reply
use Rattle.usb_model.specs.Endpoint.Deliver.{blanked, deliver, is_withdrawn, leads_blank, orders_errand, resume, withdrawn}
use Rattle.usb_model.specs.Endpoint.{is_blank, is_blank_state, is_waiting, is_waiting_state, past_blanks}
use Rattle.proof_model.proofs.Work.Errands.{events-blanked, events-past_blanks}
use Rattle.usb_model.specs.Coherence.{IsCoherent, IsPhase, event_by, ended, move_ran, move_waits, reset_ran, reset_waits, runs, served_events, stop_failed, stop_ran, stop_ran_paused, stop_waits, stop_waits_halted}
use Rattle.refine_world.specs.ShownEndpoint.{AllKept, AllNew, FrontKnown, IsOrderly, NewBehind, ShowsEnd, count, front, has_pause, is_stale, known_by, new_by, orders_sent, tail_told}
use Rattle.usb_model.specs.Kept.{Completion, InRow, KeptEndpoint, KeptTransfer, SentErrand, Telling, code_of, first_place, index_of}
use Rattle.refine_world.specs.Kept.{Handles}
use Rattle.usb_model.specs.Events.{kept_result, past_kept_blanks, posts}
use Rattle.usb_model.specs.Settlements.{kept_blanked, kept_withdrawn, leads_kept, resume_kept, settle, withdrawn_results}
use Rattle.refine_world.proofs.FirstServed.{blanks_leave}
use Rattle.refine_world.proofs.Finished.{same_result}
use Rattle.proof_model.proofs.Lists.Parts.{heads_same}
use Rattle.refine_world.proofs.Fronts.{none_moved, told_none}

-- of each waiting transfer the core knows what moved
abbrev AllKnown : ℕ → List Item → List KeptTransfer → Type 0
AllKnown size (x ∷ xs) (y ∷ ys) = (x.state ≡ Waiting → y.moved ≡ count size x) × AllKnown size xs ys
AllKnown size _ _ = Unit {0}

-- of transfers that took nothing
all_new : (size : ℕ) (xs : List Item) (ys : List KeptTransfer) → AllKept size xs ys → AllNew xs → AllKnown size xs ys
all_new size [] ys k new = tt
all_new size (x ∷ xs) [] k new = tt
all_new size (x ∷ xs) (y ∷ ys) k new = by_state x.state refl new (all_new size xs ys k.1)
  where
    by_state : (s : ItemState) → x.state ≡ s → new_by s x (AllNew xs) → (AllNew xs → AllKnown size xs ys) → (x.state ≡ Waiting → y.moved ≡ count size x) × AllKnown size xs ys
    by_state Waiting st new rest = let none = none_moved size x new.0 in (λ w. (k.0.live (ap is_blank_state st)).unmoved none ∙ sym none, rest new.1)
    by_state (Served c) st new rest = (λ w. absurd (cc (st, w)), rest new)
    by_state Blank st new rest = (λ w. absurd (cc (st, w)), rest new)

-- and of all, where it is known of the first
all_known : (size : ℕ) (xs : List Item) (ys : List KeptTransfer) → AllKept size xs ys → NewBehind xs → FrontKnown size xs ys → AllKnown size xs ys
all_known size [] ys k behind known = tt
all_known size (x ∷ xs) [] k behind known = tt
all_known size (x ∷ xs) (y ∷ ys) k behind known = by_state x.state refl behind known (all_known size xs ys k.1)
  where
    by_state : (s : ItemState) → x.state ≡ s → known_by s (AllNew xs) (NewBehind xs) → known_by s (y.moved ≡ count size x) (FrontKnown size xs ys)
        → (NewBehind xs → FrontKnown size xs ys → AllKnown size xs ys) → (x.state ≡ Waiting → y.moved ≡ count size x) × AllKnown size xs ys
    by_state Waiting st new known rest = (λ w. known, all_new size xs ys k.1 new)
    by_state (Served c) st behind known rest = (λ w. absurd (cc (st, w)), rest behind known)
    by_state Blank st behind known rest = (λ w. absurd (cc (st, w)), rest behind known)

-- past blanks the same wait
pub behind_blanks : (line : List Item) → NewBehind line → NewBehind (past_blanks line)
unfolding past_blanks
behind_blanks [] n = tt
behind_blanks (x ∷ xs) n = by_state x.state refl n (behind_blanks xs)
  where
    by_state : (s : ItemState) → x.state ≡ s → known_by s (AllNew xs) (NewBehind xs) → (NewBehind xs → NewBehind (past_blanks xs)) → NewBehind (if is_blank_state s then past_blanks xs else x ∷ xs)
    by_state Waiting st n rest = subst (λ s. known_by s (AllNew xs) (NewBehind xs)) (sym st) n
    by_state (Served c) st n rest = subst (λ s. known_by s (AllNew xs) (NewBehind xs)) (sym st) n
    by_state Blank st n rest = rest n

-- the line after a withdrawal
record Withdraws (size : ℕ) (xs : List Item) (ys : List KeptTransfer) (end : ℕ) : Type 0 where
  kept : AllKept size (map blanked xs) (map kept_blanked ys)
  row : InRow (map kept_blanked ys) end
  first : first_place (map kept_blanked ys) end ≡ first_place ys end
  results : withdrawn_results ys ≡ withdrawn size xs
  known : FrontKnown size (map blanked xs) (map kept_blanked ys)
  leads : leads_kept (map kept_blanked ys) ≡ leads_blank (map blanked xs)
  stands : leads_blank (map blanked xs) ≡ false → front size (map blanked xs) (map kept_blanked ys) end ≡ front size xs ys end

withdraws : (size : ℕ) (xs : List Item) (ys : List KeptTransfer) (end : ℕ) → AllKept size xs ys → InRow ys end → served_events xs ≡ [] → AllKnown size xs ys → Withdraws size xs ys end
unfolding served_events withdrawn_results withdrawn front
withdraws size [] [] end k row none known = record { kept = tt; row = tt; first = refl; results = refl; known = tt; leads = refl; stands = λ q. refl }
withdraws size [] (y ∷ ys) end k row none known = absurd k
withdraws size (x ∷ xs) [] end k row none known = absurd k
withdraws size (x ∷ xs) (y ∷ ys) end k row none known = by_state x.state refl none (withdraws size xs ys end k.1 row.1)
  where
    Rest : Type 0
    Rest = served_events xs ≡ [] → AllKnown size xs ys → Withdraws size xs ys end

    -- it stays as it is
    stays : is_withdrawn x ≡ false → kept_withdrawn y ≡ false → Withdraws size xs ys end → known_by x.state (y.moved ≡ count size x) (FrontKnown size (map blanked xs) (map kept_blanked ys)) → (is_blank x ≡ false → front size (x ∷ map blanked xs) (y ∷ map kept_blanked ys) end ≡ front size (x ∷ xs) (y ∷ ys) end) → Withdraws size (x ∷ xs) (y ∷ ys) end
    stays a b r now same = record {
      kept = rw (a, b) (k.0, r.kept);
      row = rw b (r.first ∙ row.0, r.row);
      first = rw b refl;
      results = rw (a, b) r.results;
      known = rw (a, b) now;
      leads = rw (a, b) k.0.blank;
      stands = rw (a, b) same;
    }

    by_ask : (o : Bool) → is_some x.ask ≡ o → x.state ≡ Waiting → Withdraws size xs ys end → Withdraws size (x ∷ xs) (y ∷ ys) end
    by_ask true asked st r =
        let live = k.0.live (ap is_blank_state st) in
        let a : is_withdrawn x ≡ true = ap₂ (λ s o. is_waiting_state s && o) st asked in
        let b : kept_withdrawn y ≡ true = ap₂ (λ s o. not s && is_some o) (k.0.blank ∙ ap is_blank_state st) live.ask ∙ asked in
        record {
          kept = rw (a, b) (record { blank = refl; some = k.0.some; live = λ q. absurd cc }, r.kept);
          row = rw b (r.first ∙ row.0, r.row);
          first = rw b refl;
          results = rw (a, b) (ap₂ (λ t l. t ∷ l) (ap (kept_result false 26 y) (known.0 st) ∙ same_result size false 26 x y live) r.results);
          known = rw a r.known;
          leads = rw (a, b) refl;
          stands = rw a (λ q. absurd cc);
        }
    by_ask false asked st r =
        let live = k.0.live (ap is_blank_state st) in
        let a : is_withdrawn x ≡ false = ap₂ (λ s o. is_waiting_state s && o) st asked in
        let b : kept_withdrawn y ≡ false = ap₂ (λ s o. not s && is_some o) (k.0.blank ∙ ap is_blank_state st) live.ask ∙ asked in
        stays a b r (subst (λ s. known_by s (y.moved ≡ count size x) (FrontKnown size (map blanked xs) (map kept_blanked ys))) (sym st) (known.0 st)) (λ q. let w : is_waiting x ≡ true = ap is_waiting_state st in rw w refl)

    by_state : (s : ItemState) → x.state ≡ s → event_by x.n s (served_events xs) ≡ [] → Rest → Withdraws size (x ∷ xs) (y ∷ ys) end
    by_state Waiting st none rest = by_ask (is_some x.ask) refl st (rest none known.1)
    by_state (Served c) st none rest = absurd cc
    by_state Blank st none rest =
        let r = rest none known.1 in
        let a : is_withdrawn x ≡ false = ap (λ s. is_waiting_state s && is_some x.ask) st in
        let b : kept_withdrawn y ≡ false = ap (λ t. not t && is_some y.ask) (k.0.blank ∙ ap is_blank_state st) in
        stays a b r (subst (λ s. known_by s (y.moved ≡ count size x) (FrontKnown size (map blanked xs) (map kept_blanked ys))) (sym st) r.known) (λ q. absurd (cc (q, ap is_blank_state st)))

-- an endpoint of this line, at which an errand begins or the controller runs on; nothing waits for it in the event ring
leaves : (size : ℕ) (e : Endpoint) (os : List Errand) (ns : List Event) (b : KeptEndpoint) (sent : List SentErrand) (told : List Telling) (s : ShowsEnd size e os ns b sent told) (xs : List Item) (ys : List KeptTransfer) (state : EndpointState) (er : Option Errand) (w : Option SentErrand) (os' : List Errand) (sent' : List SentErrand)
    → AllKept size xs ys → InRow ys b.end → served_events xs ≡ [] → option_map (λ z. z.errand) w ≡ er → sent' ≡ orders_sent w os'
    → (is_stale state er os' ≡ false → record { place = b.dequeue; within = b.within } ≡ front size xs ys b.end) → (state ≡ Stopped → FrontKnown size xs ys)
    → ShowsEnd size (record e { line = xs; state = state; errand = er }) os' [] (record b { line = ys; state = state; errand = w }) sent' []
leaves size e os ns b sent told s xs ys state er w os' sent' kept row none same orders stands known = record {
  tail = [];
  news = ap (λ l. l ++ []) (sym none);
  kept = kept;
  row = row;
  state = refl;
  errand = same;
  script_left = s.script_left;
  device_halted = s.device_halted;
  packets_received = s.packets_received;
  told_is = ap (λ l. l ++ []) (sym (told_none size xs ys none));
  sent_is = orders;
  stands = stands;
  paused = tt;
  known = λ q r. known q;
}

-- an errand is ordered at a line
ordered : (size : ℕ) (e : Endpoint) (b : KeptEndpoint) (told : List Telling) (s : ShowsEnd size e [] [] b [] told) (xs : List Item) (ys : List KeptTransfer) (x : Errand) (next : ℕ) (r : Reply) (results : List TransferResult) (made : List TransferResult)
    → AllKept size xs ys → InRow ys b.end → served_events xs ≡ [] → made ≡ results → (is_stale e.state (Some x) (x ∷ []) ≡ false → ⊥) → (e.state ≡ Stopped → FrontKnown size xs ys)
    → Handles size (orders_errand (record e { line = xs }) x r results) (posts (record b { line = ys }) x next r made) [] [] [] []
ordered size e b told s xs ys x next r results made kept row none same stale known =
    record {
      reply = refl;
      results = same;
      shows = rw (s.state) (leaves size e [] [] b [] told s xs ys e.state (Some x) (Some (record { errand = x; index = next })) (x ∷ []) (record { errand = x; index = next } ∷ []) kept row none refl refl (λ q. absurd (stale q)) known);
    }

-- where the endpoint stands, it goes on, or is moved
resumes : (size : ℕ) (e : Endpoint) (b : KeptEndpoint) (told : List Telling) (s : ShowsEnd size e [] [] b [] told) (xs : List Item) (ys : List KeptTransfer) (next : ℕ) (r : Reply)
    → e.state ≡ Stopped → AllKept size xs ys → InRow ys b.end → served_events xs ≡ [] → AllKnown size xs ys → record { place = b.dequeue; within = b.within } ≡ front size xs ys b.end
    → Handles size (resume size e r xs) (resume_kept next b r ys) [] [] [] []
unfolding resume resume_kept
resumes size e b told s xs ys next r stopped kept row none known stands =
    let d = withdraws size xs ys b.end kept row none known in
    rw (d.leads) (by_test (leads_blank (map blanked xs)) refl d)
  where
    nothing : served_events (map blanked xs) ≡ []
    nothing = events-blanked xs ∙ none

    by_test : (t : Bool) → leads_blank (map blanked xs) ≡ t → Withdraws size xs ys b.end
        → Handles size (if t then orders_errand (record e { line = map blanked xs }) errand.Move r (withdrawn size xs) else record { reply = r; endpoint = record e { line = map blanked xs; errand = None; state = Running }; orders = []; news = []; results = withdrawn size xs })
        (if t then posts (record b { line = map kept_blanked ys }) errand.Move next r (withdrawn_results ys) else record { reply = r; endpoint = record b { line = map kept_blanked ys; errand = None; state = Running }; orders = []; results = withdrawn_results ys }) [] [] [] []
    by_test true leads d = ordered size e b told s (map blanked xs) (map kept_blanked ys) errand.Move next r (withdrawn size xs) (withdrawn_results ys) d.kept d.row nothing d.results (λ q. absurd (stale e.state stopped q)) (λ q. d.known)
      where
        stale : (t : EndpointState) → t ≡ Stopped → is_stale t (Some errand.Move) (errand.Move ∷ []) ≡ false → ⊥
        stale Stopped e q = cc
        stale Running e q = cc
        stale Halted e q = cc
    by_test false leads d = record {
      reply = refl;
      results = d.results;
      shows = leaves size e [] [] b [] told s (map blanked xs) (map kept_blanked ys) Running None None [] [] d.kept d.row nothing refl refl (λ q. stands ∙ sym (d.stands leads)) (λ q. absurd cc);
    }

-- the four ways in which an errand ends: nothing else waits for the endpoint then
abbrev pub Ends : EndpointState → Errand → Bool → EndpointState → Option Errand → List Errand → Errand → Bool → List Event → Type 0
Ends st x f s er os o ok ns = (s ≡ st) × (er ≡ Some x) × (os ≡ []) × (o ≡ x) × (ok ≡ f) × (ns ≡ [])

abbrev pub EndWays : EndpointState → Option Errand → List Errand → Errand → Bool → List Event → Type 0
EndWays s er os o ok ns =
    Ends Stopped errand.Stop true s er os o ok ns
    ⊎ (Ends Halted errand.Stop false s er os o ok ns
    ⊎ (Ends Stopped errand.Reset true s er os o ok ns
    ⊎ Ends Stopped errand.Move true s er os o ok ns))

pub end_ways : (s : EndpointState) (er : Option Errand) (os : List Errand) (es tail : List Event) (o : Errand) (ok : Bool) (ns : List Event) → tail ≡ Settled o ok ∷ ns → IsPhase s er os es tail → EndWays s er os o ok ns
end_ways s er os es tail o ok ns e (runs g) = absurd cc
end_ways s er os es tail o ok ns e (ended g) = absurd cc
end_ways s er os es tail o ok ns e (stop_waits g) = absurd cc
end_ways s er os es tail o ok ns e (stop_waits_halted g) = absurd cc
end_ways s er os es tail o ok ns e (stop_ran g) = inl (refl, refl, refl, cc, cc, cc)
end_ways s er os es tail o ok ns e (stop_ran_paused g) = absurd cc
end_ways s er os es tail o ok ns e (stop_failed g) = inr (inl (refl, refl, refl, cc, cc, cc))
end_ways s er os es tail o ok ns e reset_waits = absurd cc
end_ways s er os es tail o ok ns e reset_ran = inr (inr (inl (refl, refl, refl, cc, cc, cc)))
end_ways s er os es tail o ok ns e move_waits = absurd cc
end_ways s er os es tail o ok ns e move_ran = inr (inr (inr (refl, refl, refl, cc, cc, cc)))

-- what is told of the served is ends alone
pub no_end : (line : List Item) (x : Event) (es : List Event) → ((n code : ℕ) → x ≡ Finished n code → ⊥) → served_events line ≡ x ∷ es → ⊥
unfolding served_events
no_end [] x es other e = cc
no_end (y ∷ ys) x es other e = by_state y.state e (no_end ys x es other)
  where
    by_state : (s : ItemState) → event_by y.n s (served_events ys) ≡ x ∷ es → (served_events ys ≡ x ∷ es → ⊥) → ⊥
    by_state Waiting e rest = rest e
    by_state (Served code) e rest = let same : x ≡ Finished y.n code = cc in other y.n code same
    by_state Blank e rest = rest e

-- where something else is told first nothing was served
pub none_served : (line : List Item) (x : Event) (ns tail : List Event) → ((n code : ℕ) → x ≡ Finished n code → ⊥) → x ∷ ns ≡ served_events line ++ tail → (served_events line ≡ []) × (tail ≡ x ∷ ns)
none_served line x ns tail other told = by_events (served_events line) refl told
  where
    by_events : (l : List Event) → served_events line ≡ l → x ∷ ns ≡ l ++ tail → (served_events line ≡ []) × (tail ≡ x ∷ ns)
    by_events [] is told = (is, sym told)
    by_events (z ∷ zs) is told = let head : z ≡ x = cc in absurd (no_end line x zs other (is ∙ ap (λ k. k ∷ zs) head))

-- the conclusion: the completion is that of the endpoint's errand, and what handling it leaves
pub record SettledShows (size ep : ℕ) (gone : Bool) (next : ℕ) (e : Endpoint) (os : List Errand) (ns : List Event) (b : KeptEndpoint) (sent : List SentErrand) (t : Telling) (told : List Telling) (o : Errand) (ok : Bool) : Type 0 where
  pub event : t ≡ Completion (index_of b.errand) (code_of ok)
  pub errand : e.errand ≡ Some o
  pub handles : Handles size (deliver size ep gone e (Settled o ok)) (settle ep next b o ok) os ns sent told

pub settled_shows : (size ep : ℕ) (gone : Bool) (next : ℕ) (e : Endpoint) (os : List Errand) (ns : List Event) (b : KeptEndpoint) (sent : List SentErrand) (t : Telling) (told : List Telling) (o : Errand) (ok : Bool)
    → IsCoherent e os (Settled o ok ∷ ns) → IsOrderly size e → ShowsEnd size e os (Settled o ok ∷ ns) b sent (t ∷ told) → SettledShows size ep gone next e os ns b sent t told o ok
unfolding deliver settle
settled_shows size ep gone next e os ns b sent t told o ok c orderly s = by_way (end_ways e.state e.errand os (served_events e.line) c.tail o ok ns (none_served e.line (Settled o ok) ns c.tail (λ n code q. cc) c.news).1 c.phase)
  where
    first : (served_events e.line ≡ []) × (s.tail ≡ Settled o ok ∷ ns)
    first = none_served e.line (Settled o ok) ns s.tail (λ n code q. cc) s.news

    tells : t ∷ told ≡ Completion (index_of b.errand) (code_of ok) ∷ tail_told size e.line b.line b.errand ns
    tells = s.told_is ∙ ap₂ (λ l m. l ++ tail_told size e.line b.line b.errand m) (told_none size e.line b.line first.0) first.1

    rest : told ≡ tail_told size e.line b.line b.errand ns
    rest = (heads_same t (Completion (index_of b.errand) (code_of ok)) told (tail_told size e.line b.line b.errand ns) tells).1

    quiet : has_pause s.tail ≡ has_pause ns
    quiet = ap has_pause first.1

    Done : Errand → Bool → List Errand → List Event → List SentErrand → List Telling → Type 0
    Done x f l m w u = Handles size (deliver size ep gone e (Settled x f)) (settle ep next b x f) l m w u

    -- with nothing waiting
    world_of : os ≡ [] → ns ≡ [] → (sent ≡ []) × (told ≡ []) × ShowsEnd size e [] [] b [] []
    world_of a n =
        let unsent : sent ≡ [] = s.sent_is ∙ ap (orders_sent b.errand) a in
        let untold : told ≡ [] = rest ∙ ap (tail_told size e.line b.line b.errand) n in (
          unsent,
          untold,
          record {
            tail = [];
            news = ap (λ l. l ++ []) (sym first.0);
            kept = s.kept;
            row = s.row;
            state = s.state;
            errand = s.errand;
            script_left = s.script_left;
            device_halted = s.device_halted;
            packets_received = s.packets_received;
            told_is = ap (λ l. l ++ []) (sym (told_none size e.line b.line first.0));
            sent_is = refl;
            stands = λ q. s.stands (subst (λ l. is_stale e.state e.errand l ≡ false) (sym a) q);
            paused = tt;
            known = λ q r. s.known q (quiet ∙ ap has_pause n);
          },
        )

    found : (x : Errand) (f : Bool) → o ≡ x → ok ≡ f → e.errand ≡ Some x → os ≡ [] → ns ≡ [] → Done x f [] [] [] [] → SettledShows size ep gone next e os ns b sent t told o ok
    found x f a g er l n done =
        let z = world_of l n in
        record {
          event = (heads_same t (Completion (index_of b.errand) (code_of ok)) told (tail_told size e.line b.line b.errand ns) tells).0;
          errand = er ∙ ap (λ k. Some k) (sym a);
          handles = subst₂ (λ y h. Done y h os ns sent told) (sym a) (sym g) (subst₂ (λ y m. Done x f y m sent told) (sym l) (sym n) (subst₂ (λ w u. Done x f [] [] w u) (sym z.0) (sym z.1) done));
        }

    knows : e.state ≡ Stopped → ns ≡ [] → AllKnown size e.line b.line
    knows st n = all_known size e.line b.line s.kept orderly.behind (s.known st (quiet ∙ ap has_pause n))

    fresh_there : (x : Errand) → e.state ≡ Stopped → e.errand ≡ Some x → os ≡ [] → is_stale Stopped (Some x) [] ≡ false → record { place = b.dequeue; within = b.within } ≡ front size e.line b.line b.end
    fresh_there x st er l q = s.stands (subst₂ (λ y m. is_stale y m os ≡ false) (sym st) (sym er) (subst (λ m. is_stale Stopped (Some x) m ≡ false) (sym l) q))

    halted_stale : (y : EndpointState) → y ≡ Halted → is_stale y (Some errand.Reset) (errand.Reset ∷ []) ≡ false → ⊥
    halted_stale Halted h q = cc
    halted_stale Running h q = cc
    halted_stale Stopped h q = cc

    stopped_stale : (y : EndpointState) → y ≡ Stopped → is_stale y (Some errand.Move) (errand.Move ∷ []) ≡ false → ⊥
    stopped_stale Stopped h q = cc
    stopped_stale Halted h q = cc
    stopped_stale Running h q = cc

    by_way : EndWays e.state e.errand os o ok ns → SettledShows size ep gone next e os ns b sent t told o ok
    by_way (inl w) =
        let z = world_of w.2 w.5 in
        found errand.Stop true w.3 w.4 w.1 w.2 w.5
        (resumes size e b [] z.2 e.line b.line next (reply.Settled ep errand.Stop true) w.0 s.kept s.row first.0 (knows w.0 w.5) (fresh_there errand.Stop w.0 w.1 w.2 refl))
    by_way (inr (inl w)) =
        let z = world_of w.2 w.5 in
        found errand.Stop false w.3 w.4 w.1 w.2 w.5
        (ordered size e b [] z.2 e.line b.line errand.Reset next (reply.Settled ep errand.Stop false) [] [] s.kept s.row first.0 refl (halted_stale e.state w.0) (λ q. absurd (cc (q, w.0))))
    by_way (inr (inr (inl w))) =
        let z = world_of w.2 w.5 in
        let d = withdraws size e.line b.line b.end s.kept s.row first.0 (knows w.0 w.5) in
        found errand.Reset true w.3 w.4 w.1 w.2 w.5
        (ordered size e b [] z.2 (map blanked e.line) (map kept_blanked b.line) errand.Move next (reply.Settled ep errand.Reset true) (withdrawn size e.line) (withdrawn_results b.line) d.kept d.row (events-blanked e.line ∙ first.0) d.results (stopped_stale e.state w.0) (λ q. d.known))
    by_way (inr (inr (inr w))) =
        let z = world_of w.2 w.5 in
        let l = blanks_leave size e.line b.line b.end s.kept s.row in
        let known : FrontKnown size (past_blanks e.line) (past_kept_blanks b.line) = l.0.known (s.known w.0 (quiet ∙ ap has_pause w.5)) in
        let none : served_events (past_blanks e.line) ≡ [] = (events-past_blanks e.line c.in_order).0 ∙ first.0 in
        found errand.Move true w.3 w.4 w.1 w.2 w.5
        (resumes size e b [] z.2 (past_blanks e.line) (past_kept_blanks b.line) next (reply.Settled ep errand.Move true) w.0 l.0.kept l.0.row none
        (all_known size (past_blanks e.line) (past_kept_blanks b.line) l.0.kept (behind_blanks e.line orderly.behind) known) (fresh_there errand.Move w.0 w.1 w.2 refl ∙ l.0.front))
