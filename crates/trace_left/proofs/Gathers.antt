-- How far orders are carried out and events handled, and what was gathered of them.
use Rattle.std.proofs.Common.{◌≡◌, ℕ, zero, suc, ◌+◌, ◌<◌, ◌≤◌, List, [], ◌++◌, append-nil, append_assoc, ap, ap₂, arith, length, map, refl, sym, take, ◌∙◌}
use Rattle.std.proofs.Math.Seq.{take-append_seam}
use Rattle.std.proofs.lemmas.List.{take_all}
use Rattle.usb_model.specs.declared.news.News.{News}
use Rattle.usb_model.specs.declared.shared.Tagged.{Tagged}
use Rattle.usb_model.specs.declared.step.Step.{Step}
use Rattle.usb_model.specs.declared.step.Step.TheVariants.{Command, Deliver}
use Rattle.usb_model.specs.Setup.{Setup}
use Rattle.usb_model.specs.World.{World, turn}
use Rattle.usb_core.specs.Public.{ShowsWorld, State}
use Rattle.trace_left.specs.declared.left.Left.{Left}
use Rattle.trace_left.specs.Gathered.{TakesOrders, all_waiting, event_of, first_of, of_option, order_of, result_of}
use Rattle.trace_left.proofs.Lists.{one_gathered}
use Rattle.trace_left.proofs.Turns.{IsReached, news_after, news_joined, orders_after}

-- each world that is shown is reached
pub shown_reached : {P : Type 0} (setup : Setup) (w : World) (s : State P) → ShowsWorld setup s w → IsReached setup w
shown_reached setup w s shown = (shown.2.steps, shown.2.reached)

-- a step's world is shown, of each world that was
abbrev ShowsNext : {P : Type 0} → Step → (old new : State P) → Type 0
ShowsNext step old new = (setup : Setup) (w : World) → ShowsWorld setup old w → ShowsWorld setup new (turn setup w step).world

-- of the first so many orders of a world some are gathered; the others are the first of the world that is shown, whose news are those of the first world, and more
pub record OrdersSoFar {P : Type 0} (setup : Setup) (w : World) (s : State P) (count done : ℕ) (old now : List Left) : Type 0 where
  pub left : ℕ
  pub counted : done + left ≡ count
  pub world : World
  pub shown : ShowsWorld setup s world
  pub gathered : now ++ map order_of (take left world.orders) ≡ old ++ map order_of (take count w.orders)
  pub more : List (Tagged News)
  pub news : world.news ≡ w.news ++ more

-- the same of events
pub record EventsSoFar {P : Type 0} (setup : Setup) (w : World) (s : State P) (count done : ℕ) (old now : List Left) : Type 0 where
  pub left : ℕ
  pub counted : done + left ≡ count
  pub world : World
  pub shown : ShowsWorld setup s world
  pub gathered : now ++ map event_of (take left world.news) ≡ old ++ map event_of (take count w.news)

module _ {P : Type 0} (setup : Setup) (w : World) where
  -- none is gathered
  pub no_orders_yet : (s : State P) (count : ℕ) (old : List Left) → ShowsWorld setup s w → OrdersSoFar setup w s count 0 old old
  no_orders_yet s count old shown = record { left = count; counted = omega arith; world = w; shown = shown; gathered = refl; more = []; news = sym (append-nil w.news) }

  pub no_events_yet : (s : State P) (count : ℕ) (old : List Left) → ShowsWorld setup s w → EventsSoFar setup w s count 0 old old
  no_events_yet s count old shown = record { left = count; counted = omega arith; world = w; shown = shown; gathered = refl }

  -- one more is
  pub one_order_more : (s s' : State P) (count done : ℕ) (old now now' : List Left) → done < count → OrdersSoFar setup w s count done old now → ShowsNext Command s s'
      → ((setup : Setup) (w : World) → ShowsWorld setup s w → now' ≡ now ++ of_option (first_of order_of w.orders)) → OrdersSoFar setup w s' count (done + 1) old now'
  one_order_more s s' count done old now now' low r next more = by_left r.left r.counted r.gathered
    where
      reached : IsReached setup r.world
      reached = shown_reached setup r.world s r.shown

      by_left : (left : ℕ) → done + left ≡ count → now ++ map order_of (take left r.world.orders) ≡ old ++ map order_of (take count w.orders) → OrdersSoFar setup w s' count (done + 1) old now'
      by_left zero counted gathered = absurd (omega (arith, low, counted))
      by_left (suc k) counted gathered =
          let joined = news_joined setup r.world reached in
          record {
            left = k;
            counted = omega (arith, counted);
            world = (turn setup r.world Command).world;
            shown = next setup r.world r.shown;
            gathered = one_gathered order_of k r.world.orders (turn setup r.world Command).world.orders now now' (old ++ map order_of (take count w.orders))
                (let more_is : k + 1 ≡ suc k = omega arith in rw more_is gathered) (more setup r.world r.shown) (orders_after setup r.world reached);
            more = r.more ++ joined.0;
            news = joined.1 ∙ (ap (λ l. l ++ joined.0) r.news ∙ append_assoc w.news r.more joined.0);
          }

  pub one_event_more : (s s' : State P) (count done : ℕ) (old now now' : List Left) → done < count → EventsSoFar setup w s count done old now → ShowsNext Deliver s s'
      → ((setup : Setup) (w : World) → ShowsWorld setup s w → now' ≡ now ++ of_option (first_of event_of w.news)) → EventsSoFar setup w s' count (done + 1) old now'
  one_event_more s s' count done old now now' low r next more = by_left r.left r.counted r.gathered
    where
      reached : IsReached setup r.world
      reached = shown_reached setup r.world s r.shown

      by_left : (left : ℕ) → done + left ≡ count → now ++ map event_of (take left r.world.news) ≡ old ++ map event_of (take count w.news) → EventsSoFar setup w s' count (done + 1) old now'
      by_left zero counted gathered = absurd (omega (arith, low, counted))
      by_left (suc k) counted gathered = record {
        left = k;
        counted = omega (arith, counted);
        world = (turn setup r.world Deliver).world;
        shown = next setup r.world r.shown;
        gathered = one_gathered event_of k r.world.news (turn setup r.world Deliver).world.news now now' (old ++ map event_of (take count w.news))
            (let more_is : k + 1 ≡ suc k = omega arith in rw more_is gathered) (more setup r.world r.shown) (news_after setup r.world reached);
      }

  -- all are
  pub all_orders : (s : State P) (count done : ℕ) (old now : List Left) → count ≤ done → OrdersSoFar setup w s count done old now → TakesOrders setup w s count old now
  all_orders s count done old now past r =
      let none : r.left ≡ 0 = omega (arith, past, r.counted) in
      record {
        world = r.world;
        shown = r.shown;
        gathered = sym (append-nil now) ∙ (ap (λ l. now ++ map order_of l) (sym (take_none r.world.orders)) ∙ (ap (λ n. now ++ map order_of (take n r.world.orders)) (sym none) ∙ r.gathered));
        more = r.more;
        news = r.news;
      }
    where
      take_none : {A : Type 0} (xs : List A) → take 0 xs ≡ []
      take_none xs = refl

  pub all_events : (s : State P) (count done : ℕ) (old now : List Left) → count ≤ done → EventsSoFar setup w s count done old now → now ≡ old ++ map event_of (take count w.news)
  all_events s count done old now past r =
      let none : r.left ≡ 0 = omega (arith, past, r.counted) in
      sym (append-nil now) ∙ (ap (λ n. now ++ map event_of (take n r.world.news)) (sym none) ∙ r.gathered)

  -- all that waits: the orders, the events that waited before, and the results
  pub waiting_is : (s : State P) (orders events : ℕ) (left left' results all : List Left) → orders ≡ length w.orders → events ≡ length w.news → (o : TakesOrders setup w s orders [] left) → left' ≡ left ++ map event_of (take events o.world.news)
      → results ≡ map result_of w.results → all ≡ left' ++ results → all ≡ all_waiting w
  waiting_is s orders events left left' results all all_orders_is all_events_is o at_events at_results at_all =
      let first : left ≡ map order_of w.orders = o.gathered ∙ ap (map order_of) (take_all orders w.orders (omega (arith, all_orders_is))) in
      let old_news : take events o.world.news ≡ w.news = ap (take events) o.news ∙ (ap (λ n. take n (w.news ++ o.more)) all_events_is ∙ take-append_seam w.news o.more) in
      at_all ∙ (ap₂ (λ a b. a ++ b) (at_events ∙ ap₂ (λ a b. a ++ map event_of b) first old_news) at_results ∙ append_assoc (map order_of w.orders) (map event_of w.news) (map result_of w.results))
