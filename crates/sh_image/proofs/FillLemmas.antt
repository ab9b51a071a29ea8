-- The entries of a leaf's words, as they are written into an image one by one.
use Rattle.std.proofs.{Common.{rules, ◌≡◌, ℕ, ◌+◌, ◌-◌, ◌<◌, List, length, get_or, set, take, drop, sym, ap, ◌∙◌, inl, inr, arith}, lemmas.Bool.{cases_eq}}
use Rattle.std.proofs.lemmas.List.{same_lists, length-set, get_or-set_same, get_or-set_other}
use Rattle.sh_base.specs.{declared.config.ConfigParts.{ConfigParts}, Layout.{entry_at}}
use Rattle.sh_image.{specs.{declared.leaf.LeafEntry.{LeafEntry}, Entries.{entries_in}, Leaf.{Leaf, leaf_in, IsEntry}}, proofs.{EntriesLemmas.{length-entries_in}, ReadLemmas.{entry_read}}}

-- the entries that the words spell, if they are a leaf's
abbrev spelled : ConfigParts → List ℕ → List LeafEntry
spelled p ws = entries_in p.value_words p.leaf (drop 6 ws)

pub spelled_many : (p : ConfigParts) (ws : List ℕ) → length (spelled p ws) ≡ p.leaf
spelled_many p ws = length-entries_in p.value_words p.leaf (drop 6 ws)

-- an entry of the words, as the code reads it
pub entry_here : (p : ConfigParts) (ws : List ℕ) (i at n : ℕ) (d : LeafEntry) → i < p.leaf → at ≡ entry_at p i → n ≡ p.value_words → record { version = get_or ws at 0; key = get_or ws (at + 1) 0; value = take (at + 2 + n - (at + 2)) (drop (at + 2) ws) } ≡ get_or (spelled p ws) i d
entry_here p ws i at n d below is all =
    let many : at + 2 + n - (at + 2) ≡ p.value_words = omega (arith, all) in
    (λ t. record { version = get_or ws (is t) 0; key = get_or ws (is t + 1) 0; value = take (many t) (drop (is t + 2) ws) }) ∙ sym (entry_read p ws i d below)

-- one entry more meets the rules
pub rules_more : (p : ConfigParts) (ws : List ℕ) (low high i : ℕ) (e : LeafEntry) → ((d : LeafEntry) → e ≡ get_or (spelled p ws) i d) → IsEntry p low high e → ((k : ℕ) (d : LeafEntry) → k < i → IsEntry p low high (get_or (spelled p ws) k d)) → (k : ℕ) (d : LeafEntry) → k < i + 1 → IsEntry p low high (get_or (spelled p ws) k d)
rules_more p ws low high i e is good h k d b = search (rules, cases_eq)

-- the leaf that is read into an image, from what its parts say
pub read_whole : (p : ConfigParts) (ws : List ℕ) (begun image : Leaf) → begun ≡ record { version = get_or ws 0 0; low = get_or ws 2 0; high = get_or ws 3 0; next = get_or ws 4 0; entries = begun.entries } → image ≡ record begun { entries = spelled p ws } → image ≡ leaf_in p ws
read_whole p ws begun image is now = now ∙ ap (λ (a : Leaf). record a { entries = spelled p ws }) is

-- the image after the first i entries were written
pub record IsFilled (p : ConfigParts) (ws : List ℕ) (old : Leaf) (i : ℕ) (image : Leaf) : Type 0 where
  pub others : image ≡ record old { entries = image.entries }
  pub long : length image.entries ≡ p.leaf
  pub each : (k : ℕ) (d : LeafEntry) → k < i → get_or image.entries k d ≡ get_or (spelled p ws) k d

module _ (p : ConfigParts) (ws : List ℕ) (old : Leaf) where
  pub filled_more : (i : ℕ) (image new : Leaf) (e : LeafEntry) → i < p.leaf → ((d : LeafEntry) → e ≡ get_or (spelled p ws) i d) → IsFilled p ws old i image → new ≡ record image { entries = set image.entries i e } → IsFilled p ws old (i + 1) new
  filled_more i image new e below here h now =
      let entries : new.entries ≡ set image.entries i e = ap (λ (a : Leaf). a.entries) now in
      record {
        others = now ∙ (λ t. record (h.others t) { entries = sym entries t });
        long = ap length entries ∙ length-set image.entries i e ∙ h.long;
        each = λ k d b. ap (λ l. get_or l k d) entries ∙ elim (cases_eq k i) [
          | inl same ↦ rw same (get_or-set_same image.entries i e d (omega (arith, h.long)) ∙ here d)
          | inr other ↦ get_or-set_other image.entries i k e d other ∙ h.each k d (omega (arith, b, other))
        ];
      }

  pub filled_all : (i : ℕ) (image : Leaf) → i ≡ p.leaf → IsFilled p ws old i image → image ≡ record old { entries = spelled p ws }
  filled_all i image all h =
      let same : image.entries ≡ spelled p ws = same_lists _ _ (h.long ∙ sym (spelled_many p ws)) (λ k d b. h.each k d (omega (arith, b, h.long))) in
      h.others ∙ λ t. record old { entries = same t }
