-- The timers of one name.
use Rattle.std.proofs.Common.{◌≡◌, ◌∙◌, ◌==◌, ◌++◌, ℕ, Bool, true, false, List, [], ◌∷◌, ap, append-nil, refl, sym, cond}
use Rattle.std.specs.Prelude.{◌&&◌, if◌then◌else◌}
use Rattle.std.specs.List.{filter}
use Rattle.std.proofs.lemmas.Bool.{and_parts, eqb-true}
use Rattle.std.proofs.lemmas.List.Elements.{filter-append}
use Rattle.usb_journal.specs.declared.timer.Timer.{Timer}
use Rattle.usb_journal.specs.Timers.{is_timer_of, stopped, timeout_in}

-- those of one name
abbrev pub own : ℕ → List Timer → List Timer
own h ts = filter (λ t. t.h == h) ts

-- the timeout of this number among them; 0 where none has it
abbrev pub look : ℕ → List Timer → ℕ
look n [] = 0
look n (t ∷ ts) = if t.n == n then t.timeout else look n ts

-- without the first of this number
abbrev pub cut : ℕ → List Timer → List Timer
cut n [] = []
cut n (t ∷ ts) = if t.n == n then ts else t ∷ cut n ts

pub timeout_own : (h n : ℕ) (ts : List Timer) → timeout_in h n ts ≡ look n (own h ts)
timeout_own h n [] = refl
timeout_own h n (t ∷ ts) = by_test (t.h == h) (timeout_own h n ts)
  where
    by_test : (b : Bool) → timeout_in h n ts ≡ look n (own h ts) → (if b && (t.n == n) then t.timeout else timeout_in h n ts) ≡ look n (cond b (t ∷ own h ts) (own h ts))
    by_test true rest = ap (λ r. if t.n == n then t.timeout else r) rest
    by_test false rest = rest

pub own_stopped : (h n : ℕ) (ts : List Timer) → own h (stopped h n ts) ≡ cut n (own h ts)
own_stopped h n [] = refl
own_stopped h n (t ∷ ts) = by_tests (t.h == h) refl (t.n == n) refl (own_stopped h n ts)
  where
    by_tests : (a : Bool) → (t.h == h) ≡ a → (b : Bool) → (t.n == n) ≡ b → own h (stopped h n ts) ≡ cut n (own h ts) → own h (stopped h n (t ∷ ts)) ≡ cut n (own h (t ∷ ts))
    by_tests true its true same rest = rw (its, same) refl
    by_tests true its false other rest =
        ap (λ x. own h (if x && (t.n == n) then ts else t ∷ stopped h n ts)) its ∙ (ap (λ y. own h (if y then ts else t ∷ stopped h n ts)) other
        ∙ (ap (λ b. cond b (t ∷ own h (stopped h n ts)) (own h (stopped h n ts))) its ∙ (ap (λ l. t ∷ l) rest
        ∙ sym (ap (λ b. cut n (cond b (t ∷ own h ts) (own h ts))) its ∙ ap (λ b. if b then own h ts else t ∷ cut n (own h ts)) other))))
    by_tests false others b test rest =
        ap (λ x. own h (if x && (t.n == n) then ts else t ∷ stopped h n ts)) others ∙ (ap (λ x. cond x (t ∷ own h (stopped h n ts)) (own h (stopped h n ts))) others ∙ (rest ∙ sym (ap (λ x. cut n (cond x (t ∷ own h ts) (own h ts))) others)))

pub own_stopped_other : (g h n : ℕ) (ts : List Timer) → (g == h) ≡ false → own h (stopped g n ts) ≡ own h ts
own_stopped_other g h n [] other = refl
own_stopped_other g h n (t ∷ ts) other = by_test (is_timer_of g n t) refl (own_stopped_other g h n ts other)
  where
    by_test : (b : Bool) → is_timer_of g n t ≡ b → own h (stopped g n ts) ≡ own h ts → own h (if b then ts else t ∷ stopped g n ts) ≡ own h (t ∷ ts)
    by_test true its rest = let apart : (t.h == h) ≡ false = ap (λ k. k == h) (eqb-true t.h g (and_parts (t.h == g) (t.n == n) its).0) ∙ other in rw apart refl
    by_test false test rest = ap (λ l. cond (t.h == h) (t ∷ l) l) rest

pub own_push : (h : ℕ) (ts : List Timer) (t : Timer) → (t.h == h) ≡ true → own h (ts ++ t ∷ []) ≡ own h ts ++ t ∷ []
own_push h ts t its = filter-append (λ (x : Timer). x.h == h) ts (t ∷ []) ∙ ap (λ b. own h ts ++ cond b (t ∷ []) []) its

pub own_push_other : (h : ℕ) (ts : List Timer) (t : Timer) → (t.h == h) ≡ false → own h (ts ++ t ∷ []) ≡ own h ts
own_push_other h ts t other = filter-append (λ (x : Timer). x.h == h) ts (t ∷ []) ∙ (ap (λ b. own h ts ++ cond b (t ∷ []) []) other ∙ append-nil (own h ts))

-- some are left out of a list, all of which are dead
pub data Left (Dead : Timer → Type 0) : List Timer → List Timer → Type 0 where
  none : Left Dead [] []
  keeps : {t : Timer} {ts all : List Timer} → Left Dead ts all → Left Dead (t ∷ ts) (t ∷ all)
  drops : {t : Timer} {ts all : List Timer} → Dead t → Left Dead ts all → Left Dead ts (t ∷ all)

module _ {D : Timer → Type 0} where
  pub left_weaker : {E : Timer → Type 0} {ts all : List Timer} → ((t : Timer) → D t → E t) → Left D ts all → Left E ts all
  left_weaker f none = none
  left_weaker f (keeps l) = keeps (left_weaker f l)
  left_weaker f (drops {t = t} d l) = drops (f t d) (left_weaker f l)

  pub left_push : {ts all : List Timer} (t : Timer) → Left D ts all → Left D (ts ++ t ∷ []) (all ++ t ∷ [])
  left_push t none = keeps none
  left_push t (keeps l) = keeps (left_push t l)
  left_push t (drops d l) = drops d (left_push t l)

  pub left_cut : {ts all : List Timer} (k : ℕ) → ((t : Timer) → (t.n == k) ≡ true → D t) → Left D ts all → Left D (cut k ts) all
  left_cut k dead none = none
  left_cut k dead (keeps {t = t} {ts = ts} {all = all} l) = by_test (t.n == k) refl (left_cut k dead l)
    where
      by_test : (b : Bool) → (t.n == k) ≡ b → Left D (cut k ts) all → Left D (if b then ts else t ∷ cut k ts) (t ∷ all)
      by_test true is rest = drops (dead t is) l
      by_test false is rest = keeps rest
  left_cut k dead (drops d l) = drops d (left_cut k dead l)

  pub left_look : {ts all : List Timer} (k : ℕ) → ((t : Timer) → D t → (t.n == k) ≡ false) → Left D ts all → look k ts ≡ look k all
  left_look k apart none = refl
  left_look k apart (keeps {t = t} l) = ap (λ r. if t.n == k then t.timeout else r) (left_look k apart l)
  left_look k apart (drops {t = t} {all = all} d l) = left_look k apart l ∙ sym (ap (λ b. if b then t.timeout else look k all) (apart t d))

  pub left_filter : {ts all : List Timer} (test : Timer → Bool) → ((t : Timer) → D t → test t ≡ false) → Left D ts all → filter test ts ≡ filter test all
  left_filter test fails none = refl
  left_filter test fails (keeps {t = t} l) = ap (λ r. cond (test t) (t ∷ r) r) (left_filter test fails l)
  left_filter test fails (drops {t = t} {all = all} d l) = left_filter test fails l ∙ sym (ap (λ b. cond b (t ∷ filter test all) (filter test all)) (fails t d))
