-- Turns of which a pass's view isn't told yet, one after another.
use Rattle.std.{proofs.Common.{rules, ◌≡◌, ℕ, zero, suc, ◌≤◌, Bool, true, false, List, [], ◌∷◌, ◌++◌, length, drop, refl, ap, sym, ◌∙◌, arith, append-nil, append_assoc}, specs.Prelude.{if◌then◌else◌, ◌||◌}}
use Rattle.sh_base.specs.declared.config.ConfigParts.{ConfigParts}
use Rattle.sh_map.specs.declared.{log.Entry.{Entry}, call.Call.{Call}}
use Rattle.sh_core.specs.Actors.{Actor}
use Rattle.sh_local.specs.declared.view.ChairCall.{ChairCall}
use Rattle.sh_pool_rule.specs.{declared.view.Tiding.{Tiding}, Untold.{UntoldTurn, CallBegun, caught_up, life_with, MayTakeAll, tiding_of, untold_after}}
use Rattle.sh_pool.specs.{Handed.{Handed}, Passes.{has_left, is_left, untold_by, untold_if, untold_of, untold_with, EndsLeft}}

pub caught-append : (k : ℕ) (s : List Entry) (a : Actor) (us vs : List UntoldTurn) → caught_up k s a (us ++ vs) ≡ caught_up k s (caught_up k s a us) vs
caught-append k s a [] vs = refl
caught-append k s a (u ∷ us) vs = caught-append k s (untold_after k s a u) us vs

pub may-append : (p : ConfigParts) (k : ℕ) (s : List Entry) (a : Actor) (us vs : List UntoldTurn) → MayTakeAll p k s a us → MayTakeAll p k s (caught_up k s a us) vs → MayTakeAll p k s a (us ++ vs)
may-append p k s a [] vs h l = l
may-append p k s a (u ∷ us) vs h l = (h.0, may-append p k s (untold_after k s a u) us vs h.1 l)

pub life-append : (us vs : List UntoldTurn) (life : List Tiding) → life_with (us ++ vs) life ≡ life_with vs (life_with us life)
life-append [] vs life = refl
life-append (u ∷ us) vs life = life-append us vs (tiding_of u ∷ life)

of-append : (xs ys : List (ChairCall Handed)) → untold_of (xs ++ ys) ≡ untold_of xs ++ untold_of ys
of-append [] ys = refl
of-append (x ∷ xs) ys = ap (λ (us : List UntoldTurn). untold_by x ++ us) (of-append xs ys) ∙ sym (append_assoc (untold_by x) (untold_of xs) (untold_of ys))

of-snoc : (xs : List (ChairCall Handed)) (x : ChairCall Handed) → untold_of (xs ++ x ∷ []) ≡ untold_of xs ++ untold_by x
of-snoc xs x = of-append xs (x ∷ []) ∙ ap (λ (us : List UntoldTurn). untold_of xs ++ us) (append-nil (untold_by x))

pub drop-snoc : (n : ℕ) (xs : List (ChairCall Handed)) (x : ChairCall Handed) → n ≤ length xs → drop n (xs ++ x ∷ []) ≡ drop n xs ++ x ∷ []
drop-snoc zero xs x h = refl
drop-snoc (suc n) [] x h = absurd (omega (arith, h))
drop-snoc (suc n) (y ∷ xs) x h = drop-snoc n xs x (omega (arith, h))

-- ---- a call that was begun

or_false : (b : Bool) → (b || false) ≡ b
or_false b = search rules

or_true : (b : Bool) → (b || true) ≡ true
or_true b = search rules

has-snoc : (xs : List (ChairCall Handed)) (x : ChairCall Handed) → is_left x ≡ false → has_left (xs ++ x ∷ []) ≡ has_left xs
has-snoc [] x no_ = or_false (is_left x) ∙ no_
has-snoc (y ∷ xs) x no_ = ap (λ (b : Bool). is_left y || b) (has-snoc xs x no_)

by_test : (s t : Bool) (A' B' A B u : List UntoldTurn) → s ≡ t → A' ≡ A ++ u → B' ≡ B ++ u → (if s then A' else B') ≡ (if t then A else B) ++ u
by_test s t h2 h3 h4 h5 u e f g = search rules

with-snoc : (call : Call) (xs : List (ChairCall Handed)) (x : ChairCall Handed) → is_left x ≡ false → untold_with call (xs ++ x ∷ []) ≡ untold_with call xs ++ untold_by x
with-snoc call [] x no_ = ap (λ (b : Bool). if b then untold_by x ++ CallBegun call ∷ [] else CallBegun call ∷ (untold_by x ++ [])) (or_false (is_left x) ∙ no_) ∙ ap (λ (us : List UntoldTurn). CallBegun call ∷ us) (append-nil (untold_by x))
with-snoc call (y ∷ xs) x no_ = by_test (has_left (y ∷ (xs ++ x ∷ []))) (has_left (y ∷ xs)) (untold_by y ++ untold_with call (xs ++ x ∷ [])) (CallBegun call ∷ untold_of (y ∷ (xs ++ x ∷ []))) (untold_by y ++ untold_with call xs) (CallBegun call ∷ untold_of (y ∷ xs)) (untold_by x)
    (ap (λ (b : Bool). is_left y || b) (has-snoc xs x no_))
    (ap (λ (us : List UntoldTurn). untold_by y ++ us) (with-snoc call xs x no_) ∙ sym (append_assoc (untold_by y) (untold_with call xs) (untold_by x)))
    (ap (λ (us : List UntoldTurn). CallBegun call ∷ us) (of-snoc (y ∷ xs) x))

-- one call more on the chair
pub if-snoc : (b : Bool) (call : Call) (xs : List (ChairCall Handed)) (x : ChairCall Handed) → (b ≡ true → is_left x ≡ false) → untold_if b call (xs ++ x ∷ []) ≡ untold_if b call xs ++ untold_by x
if-snoc b call xs x h = search (rules, with-snoc, of-snoc)

has_end : (x : ChairCall Handed) (xs : List (ChairCall Handed)) → EndsLeft (x ∷ xs) → has_left (x ∷ xs) ≡ true
has_end x [] e = or_false (is_left x) ∙ e
has_end x (y ∷ xs) e = ap (λ (b : Bool). is_left x || b) (has_end y xs e) ∙ or_true (is_left x)

-- a call is begun behind all calls on the chair
pub with-begin : (call : Call) (xs : List (ChairCall Handed)) → EndsLeft xs → untold_with call xs ≡ untold_of xs ++ CallBegun call ∷ []
with-begin call [] e = refl
with-begin call (x ∷ []) e = ap (λ (b : Bool). if b then untold_by x ++ CallBegun call ∷ [] else CallBegun call ∷ untold_of (x ∷ [])) (has_end x [] e) ∙ ap (λ (us : List UntoldTurn). us ++ CallBegun call ∷ []) (sym (append-nil (untold_by x)))
with-begin call (x ∷ y ∷ xs) e = ap (λ (b : Bool). if b then untold_by x ++ untold_with call (y ∷ xs) else CallBegun call ∷ untold_of (x ∷ y ∷ xs)) (has_end x (y ∷ xs) e) ∙ ap (λ (us : List UntoldTurn). untold_by x ++ us) (with-begin call (y ∷ xs) e) ∙ sym (append_assoc (untold_by x) (untold_of (y ∷ xs)) (CallBegun call ∷ []))

pub ends-snoc : (xs : List (ChairCall Handed)) (x : ChairCall Handed) → is_left x ≡ true → EndsLeft (xs ++ x ∷ [])
ends-snoc [] x e = e
ends-snoc (y ∷ []) x e = e
ends-snoc (y ∷ z ∷ xs) x e = ends-snoc (z ∷ xs) x e
