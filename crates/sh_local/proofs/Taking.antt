-- The chairs that are taken in, one after another.
use Rattle.std.proofs.Common.{rules, ◌≡◌, ℕ, Option, None, List, [], ◌∷◌, ◌++◌, length, ap, sym, subst, arith, length-append}
use Rattle.atomic_table.specs.{Table.{Seen, Final}, Seated.{TableId}}
use Rattle.sh_local.specs.{declared.view.{ChairCall.{ChairCall}, View.{View}}, Calls.{gave, took, drew_at, draws_of, turned_at, turns_of, total, given, taken, both}, Lines.{Line, AllStand}}
use Rattle.sh_local.{specs.Chairs.{Sitting, AllFree, AllTold, AllNone, TakenIn, Gathered}, proofs.Sums.{total_append, total_snoc}}
use Rattle.sh_local.proofs.{Regroup.{ends_served, ends_once, ends_turns, ends_left, ends_even, ends_empty, ends_told}, Allowed.{Holds}}

all_stand_split : {T : Type 0} (lines : ℕ → Line T) (xs ys : List (ChairCall T)) → AllStand lines (xs ++ ys) → AllStand lines xs × AllStand lines ys
all_stand_split lines [] ys h = (tt, h)
all_stand_split lines (x ∷ xs) ys h = let k = all_stand_split lines xs ys h.1 in ((h.0, k.0), k.1)

module _ {T K : Type 0} where
  pub all_free_snoc : (z : TableId) (ss : List (Sitting T K)) (x : Sitting T K) → AllFree z (ss ++ x ∷ []) → AllFree z ss × (x.table ≡ z) × (x.view.ticket ≡ None)
  all_free_snoc z [] x h = (tt, h.0, h.1)
  all_free_snoc z (s ∷ ss) x h = let k = all_free_snoc z ss x h.2 in ((h.0, h.1, k.0), k.1, k.2)

  all_told_snoc : (lines : ℕ → Line T) (ss : List (Sitting T K)) (x : Sitting T K) → AllTold lines ss → AllStand lines x.view.calls → AllTold lines (ss ++ x ∷ [])
  all_told_snoc lines [] x h k = (k, tt)
  all_told_snoc lines (s ∷ ss) x h k = (h.0, all_told_snoc lines ss x h.1 k)

  pub taken_step : (chairs rest now : List (Sitting T K)) (x : Sitting T K) (v : View T K) → rest ≡ now ++ x ∷ [] → x.view.parts ≡ 1 → TakenIn chairs rest v → TakenIn chairs now (both v x.view)
  taken_step chairs rest now x v is part t = record {
    none = t.none;
    parts = omega (arith, t.parts, ap length is, length-append now (x ∷ []), part);
    gives = let f : Sitting T K → ℕ = λ s. given s.view in omega (arith, t.gives, ap (total f) is, total_snoc f now x, total_append gave v.calls x.view.calls);
    takes = let f : Sitting T K → ℕ = λ s. taken s.view in omega (arith, t.takes, ap (total f) is, total_snoc f now x, total_append took v.calls x.view.calls);
    draws = λ c n. let f : Sitting T K → ℕ = λ s. draws_of c n s.view in omega (arith, t.draws c n, ap (total f) is, total_snoc f now x, total_append (drew_at c n) v.calls x.view.calls);
    turns = λ c n. let f : Sitting T K → ℕ = λ s. turns_of c n s.view in omega (arith, t.turns c n, ap (total f) is, total_snoc f now x, total_append (turned_at c n) v.calls x.view.calls);
    told = λ lines s k. let y = all_stand_split lines v.calls x.view.calls s in t.told lines y.0 (subst (AllTold lines) (sym is) (all_told_snoc lines now x k y.1));
  }

  pub taken_first : (chairs now : List (Sitting T K)) (x : Sitting T K) → chairs ≡ now ++ x ∷ [] → x.view.ticket ≡ None → x.view.parts ≡ 1 → TakenIn chairs now x.view
  taken_first chairs now x is none part = search (rules, length-append, total_snoc, all_told_snoc)

  module _ (fits : K → ℕ → T → Type 0) (key : K) (chairs : ℕ) (words : List ℕ) (slots : List (Option T)) (id : ℕ) (v : View T K) (all : List (Sitting T K)) (t : TakenIn all [] v) (long : length all ≡ chairs) (f : Final (Seen (Holds fits key chairs) id v) words slots) where
    parts_are : v.parts ≡ chairs
    parts_are = omega (arith, t.parts, long)

    pub ends_none : AllNone slots
    ends_none k lt = f.4 k None (ends_empty fits key chairs f.0.words f.0.homes f.0.views f.1.0 id v f.1.1 parts_are t.none k (omega (arith, lt, f.3)))

    pub ends_gathered : (cells : ℕ) → cells ≡ length slots → Gathered cells all
    ends_gathered cells is =
        let r = f.1.0 in
        let s = f.0 in
        record {
          lines = r.lines;
          told = t.told r.lines (ends_told fits key chairs s.words s.homes s.views r id v f.1.1 parts_are t.none) tt;
          served = λ c lt. ends_served fits key chairs s.words s.homes s.views r id v f.1.1 parts_are t.none c (omega (arith, lt, is, f.3));
          turns = λ c n lt. let e = ends_turns fits key chairs s.words s.homes s.views r id v f.1.1 parts_are t.none c n (omega (arith, lt, is, f.3)) in omega (arith, e, t.turns c n);
          empty = λ c lt. ends_left fits key chairs s.words s.homes s.views r id v f.1.1 parts_are t.none c (omega (arith, lt, is, f.3));
          draws = λ c n. let e = ends_once fits key chairs s.words s.homes s.views r id v f.1.1 parts_are t.none c n in omega (arith, e, t.draws c n);
          even = let e = ends_even fits key chairs s.words s.homes s.views r id v f.1.1 parts_are t.none in omega (arith, e, t.gives, t.takes);
        }
