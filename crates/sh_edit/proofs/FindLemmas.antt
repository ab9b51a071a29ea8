-- A scan of the keys is a scan of the entries.
use Rattle.std.{proofs.{Common.{◌≡◌, ℕ, zero, suc, List, [], ◌∷◌, length, refl, sym, ◌∙◌, arith}, lemmas.List.{length-map}}, specs.Prelude.{slice_index}}
use Rattle.sh_lanes.specs.Scans.{IsFirst, LacksWord}
use Rattle.sh_image.specs.{declared.leaf.LeafEntry.{LeafEntry}, Entries.{keys_of}}
use Rattle.sh_edit.specs.{Held.{key_at}, Placing.{IsFirstWith, LacksKey}}

pub key_of_keys : (es : List LeafEntry) (i : ℕ) → slice_index (keys_of es) i ≡ key_at es i
key_of_keys [] i = refl
key_of_keys (e ∷ es) zero = refl
key_of_keys (e ∷ es) (suc i) = key_of_keys es i

pub length_of_keys : (es : List LeafEntry) → length (keys_of es) ≡ length es
length_of_keys es = length-map _ _

pub first_with : (es : List LeafEntry) (key i : ℕ) → IsFirst (keys_of es) key i → IsFirstWith es key i
first_with es key i h = record {
  in_range = omega (arith, h.in_range, length_of_keys es);
  here = sym (key_of_keys es i) ∙ h.here;
  before = λ j below is. h.before j below (key_of_keys es j ∙ is);
}

pub none_with : (es : List LeafEntry) (key : ℕ) → LacksWord (keys_of es) key → LacksKey es key
none_with es key h j below is = h j (omega (arith, length_of_keys es)) (key_of_keys es j ∙ is)
