-- What a map has after a change.
use Rattle.std.{proofs.Common.{rules, ◌≡◌, ◌≢◌, ℕ, Equal, true, false, cond, List, Some, None, refl, sym, ap, ◌∙◌}, specs.Ordering.{nat_cmp, eq_by_cmp, is_eq}}
use Rattle.std.{proofs.lemmas.Bool.{cases_lt, cases_eq}, specs.{Cmp.{nat_cmp_total, nat_cmp_is}, FinMap.{get-insert, get-remove, same_map, nat_cmp-IsAntisymmetric}}}
use Rattle.sh_map.specs.Map.{Map, get, put, del}

pub same_test : (q : ℕ) → eq_by_cmp nat_cmp q q ≡ true
same_test q = ap is_eq (sym (nat_cmp_is q q Equal refl))

pub apart_test : (q key : ℕ) → q ≢ key → eq_by_cmp nat_cmp q key ≡ false
apart_test q key differ = search (rules, cases_lt)

pub get-put : (m : Map) (key : ℕ) (value : List ℕ) → get (put m key value) key ≡ Some value
get-put m key value = get-insert nat_cmp_total m key value key ∙ ap (λ b. cond b (Some value) (get m key)) (same_test key)

pub get-put_other : (m : Map) (key q : ℕ) (value : List ℕ) → q ≢ key → get (put m key value) q ≡ get m q
get-put_other m key q value differ = get-insert nat_cmp_total m key value q ∙ ap (λ b. cond b (Some value) (get m q)) (apart_test q key differ)

pub get-del : (m : Map) (key : ℕ) → get (del m key) key ≡ None
get-del m key = get-remove nat_cmp_total m key key ∙ ap (λ b. cond b None (get m key)) (same_test key)

pub get-del_other : (m : Map) (key q : ℕ) → q ≢ key → get (del m key) q ≡ get m q
get-del_other m key q differ = get-remove nat_cmp_total m key q ∙ ap (λ b. cond b None (get m q)) (apart_test q key differ)

-- maps that have the same at each key are one
pub same_by_keys : (m n : Map) → ((q : ℕ) → get m q ≡ get n q) → m ≡ n
same_by_keys m n same = same_map nat_cmp_total nat_cmp-IsAntisymmetric m n same

-- deleting an absent key changes nothing
pub del_absent : (m : Map) (key : ℕ) → get m key ≡ None → del m key ≡ m
del_absent m key absent = search (rules, same_by_keys, cases_eq, get-del, get-del_other)

-- a map is a change of another where it has the new value at the key, and the old ones elsewhere
pub is_put : (m n : Map) (key : ℕ) (value : List ℕ) → get n key ≡ Some value → ((q : ℕ) → q ≢ key → get n q ≡ get m q) → n ≡ put m key value
is_put m n key value here others = search (rules, same_by_keys, cases_eq, get-put, get-put_other)

pub is_del : (m n : Map) (key : ℕ) → get n key ≡ None → ((q : ℕ) → q ≢ key → get n q ≡ get m q) → n ≡ del m key
is_del m n key here others = search (rules, same_by_keys, cases_eq, get-del, get-del_other)
