-- The walk down the levels, as far as it has come.
use Rattle.std.proofs.{Common.{◌≡◌, ◌≢◌, ℕ, suc, ◌+◌, ◌-◌, ◌≤◌, List, Vec, Global, [], ◌∷◌, ◌++◌, length, sym, ap, subst, ◌∙◌, length-append, arith}}
use Rattle.sh_base.specs.{declared.config.ConfigParts.{ConfigParts}, Setting.{nodes, IsNode}}
use Rattle.sh_picture.specs.{Walk.{first_child, root_of, IsAlong, IsDown, IsLevel, IsSoundNode}, Walks.{LevelWalked}}
use Rattle.sh_picture.{specs.declared.walked.LevelWalk.{LevelWalk, TheVariants.{Whole}}, proofs.{NodeLemmas.{child_inside}, WalkLemmas.{down_more}}}

-- so many levels are walked, and `first` is the first number of the next one, if there is one
pub record IsGoing (p : ConfigParts) (words : List ℕ) (top depth : ℕ) (above : List (List ℕ)) (first : ℕ) : Type 0 where
  pub number : ℕ
  pub count : length above ≡ depth
  pub within : depth ≤ suc top
  pub down : IsDown p words (suc top - depth) (root_of words) above number
  pub here : depth ≤ top → IsNode p number × (first ≡ number)

module _ (p : ConfigParts) (words : List ℕ) where
  -- a level that was walked as a whole
  pub whole_of : (level first : ℕ) (walk : LevelWalk) (nodes : Vec ℕ Global) → walk ≡ Whole nodes → LevelWalked p words level first walk → IsLevel p words level first nodes.items
  whole_of level first walk nodes is h = subst (LevelWalked p words level first) is h

  level_head : (level first : ℕ) (ns : List ℕ) (high : ℕ) → IsAlong p words level first 0 ns 0 high → first ≢ 0 → IsSoundNode p words level 0 first
  level_head level first [] high h some = absurd (some (sym h.0))
  level_head level first (n ∷ ns) high h some = subst (IsSoundNode p words level 0) (sym h.0) h.1

  pub level_first : (level first : ℕ) (ns : List ℕ) → IsLevel p words level first ns → first ≢ 0 → IsSoundNode p words level 0 first
  level_first level first ns h some = level_head level first ns h.high h.along some

  pub going_more : (top depth : ℕ) (above : List (List ℕ)) (first next : ℕ) (ns : List ℕ) → depth ≤ top → IsGoing p words top depth above first → IsLevel p words (top - depth) first ns → (first_child p words first ≤ nodes p → next ≡ first_child p words first) → IsGoing p words top (depth + 1) (above ++ ns ∷ []) next
  going_more top depth above first next ns le h level is =
      let at : first ≡ h.number = (h.here le).1 in
      let node : IsNode p h.number = (h.here le).0 in
      let level_is : IsLevel p words (top - depth) h.number ns = subst (λ (f : ℕ). IsLevel p words (top - depth) f ns) at level in
      let left : suc top - depth ≡ suc (top - depth) = omega (arith, le) in
      let now : suc top - (depth + 1) ≡ top - depth = omega (arith, le) in
      let down = down_more p words (top - depth) (root_of words) above h.number ns (subst (λ (l : ℕ). IsDown p words l (root_of words) above h.number) left h.down) level_is in
      record {
        number = first_child p words h.number;
        count = omega (arith, length-append above (ns ∷ []), h.count);
        within = omega (arith, le);
        down = subst (λ (l : ℕ). IsDown p words l (root_of words) (above ++ ns ∷ []) (first_child p words h.number)) (sym now) down;
        here = λ more.
            let s = level_first (top - depth) h.number ns level_is (λ z. omega (arith, z, node.first)) in
            let child = (child_inside p words h.number s.spelled (λ z. omega (arith, z, s.level_is, more))).0 in
            (child, is (subst (λ (f : ℕ). first_child p words f ≤ nodes p) (sym at) child.last) ∙ ap (first_child p words) at);
      }
