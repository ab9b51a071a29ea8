-- The facts on points are true of what stands, and stay true as the log grows.
use Rattle.std.proofs.Common.{◌≡◌, ◌≢◌, ℕ, ◌<◌, ◌≤◌, List, ◌++◌, length, length-append, Option, Some, None, refl, sym, ap, ◌∙◌, subst, inl, inr, arith}
use Rattle.std.{proofs.lemmas.List.{take-append-le}}
use Rattle.sh_logic.proofs.Lists.{all_at}
use Rattle.sh_base.specs.{declared.config.ConfigParts.{ConfigParts}, Setting.{node_size}}
use Rattle.sh_map.{specs.{declared.log.Entry.{Entry}, Map.{Map, get}, Log.{map_of, map_at}}, proofs.LogLemmas.{map_at-length}}
use Rattle.sh_image.specs.{declared.leaf.LeafEntry.{LeafEntry}, Leaf.{IsEntry}}
use Rattle.sh_edit.{specs.{Held.{held, no_entry}, Placing.{LacksKey}}, proofs.HeldLemmas.{held_at, held_none}}
use Rattle.sh_state.{specs.Nodes.{low_in, high_in, standing_entries, IsStandingLeaf}, proofs.EntryWords.{length-entries_of}}
use Rattle.sh_readers.{specs.Points.{standing_entry, HadSince, IsEntrySince, IsGoodNode}, proofs.KeyLemmas.{first_with, first_or_none}}

pub HadAt-more : (log more : List Entry) (first key : ℕ) (had : Option (List ℕ)) → HadSince log first key had → HadSince (log ++ more) first key had
HadAt-more log more first key had h = (h.0, h.1, omega (arith, h.2, length-append log more), ap (λ (es : List Entry). get (map_of es) key) (take-append-le h.0 log more h.2) ∙ h.3)

-- what the map has now
pub had_now : (log : List Entry) (first key : ℕ) (had : Option (List ℕ)) → first ≤ length log → get (map_of log) key ≡ had → HadSince log first key had
had_now log first key had since e = (length log, since, omega arith, ap (λ (m : Map). get m key) (map_at-length log) ∙ e)

module _ (p : ConfigParts) (log : List Entry) (first : ℕ) where
  -- an event that leaves the fences, while the log grows
  pub good_on : (more : List Entry) (s t : List ℕ) (e : LeafEntry) → low_in s ≡ low_in t → high_in s ≡ high_in t → IsEntrySince p log first s e → IsEntrySince p (log ++ more) first t e
  good_on more s t e lo hi h = record { rules = subst (λ (z : ℕ × ℕ). IsEntry p z.0 z.1 e) (λ z. (lo z, hi z)) h.rules; had = λ nz. HadAt-more log more first e.key (Some e.value) (h.had nz) }

  module _ (s : List ℕ) (since : first ≤ length log) (part : IsStandingLeaf p log s) where
    -- what stands is good now
    pub good_now : length s ≡ node_size p → IsGoodNode p log first s s
    good_now long = record {
      long = long;
      entries = λ i lt.
          let es : List LeafEntry = standing_entries p s in
          let below : i < length es = omega (arith, lt, length-entries_of p s) in
          let rules : IsEntry p (low_in s) (high_in s) (standing_entry p s i) = all_at (IsEntry p (low_in s) (high_in s)) es i no_entry part.spells.lawful.entries below in
          record {
            rules = rules;
            had = λ nz. elim rules.within [
              | inl z ↦ absurd (nz z.0)
              | inr z ↦ had_now log first (standing_entry p s i).key (Some (standing_entry p s i).value) since (sym (part.map (standing_entry p s i).key nz z.0 z.2) ∙ held_at es (standing_entry p s i).key i (first_with es (standing_entry p s i).key i part.once nz below refl))
            ];
          };
    }

    -- a key that no entry of the leaf has is absent now
    pub absent_now : (key : ℕ) → key ≢ 0 → low_in s ≤ key → key < high_in s → LacksKey (standing_entries p s) key → HadSince log first key None
    absent_now key nz lo hi none = had_now log first key None since (sym (part.map key nz lo hi) ∙ held_none (standing_entries p s) key none)

  -- what a leaf holds, where each of its entries is good, and a key that it lacks was absent
  pub replied : (s got : List ℕ) (key : ℕ) → key ≢ 0 → ((i : ℕ) → i < p.leaf → IsEntrySince p log first s (standing_entry p got i)) → (LacksKey (standing_entries p got) key → HadSince log first key None) → HadSince log first key (held (standing_entries p got) key)
  replied s got key nz good absent =
      let es : List LeafEntry = standing_entries p got in
      elim (first_or_none es key (length es) (omega arith)) [
        | inl found ↦
            let i = found.0 in
            let h = found.2 in
            let is : held es key ≡ Some (standing_entry p got i).value = held_at es key i h in
            let at = (good i (omega (arith, h.in_range, length-entries_of p got))).had (λ z. nz (sym h.here ∙ z)) in
            (at.0, at.1, at.2, ap (λ q. get (map_at log at.0) q) (sym h.here) ∙ at.3 ∙ sym is)
        | inr none ↦ let a = absent none in (a.0, a.1, a.2, a.3 ∙ sym (held_none es key none))
      ]
