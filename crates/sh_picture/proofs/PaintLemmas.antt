-- A picture that is written piece by piece.
use Rattle.std.{proofs.Common.{◌≡◌, ℕ, ◌+◌, ◌-◌, ◌≤◌, List, ◌++◌, Option, take, drop, sym, ap, subst, ◌∙◌, append_assoc, arith}, specs.{List.{flat_map}, Io.KnownBytes.{Appends}}}
use Rattle.std.proofs.{Math.Seq.{take-add}, lemmas.List.Concat.{flat_map-append}}
use Rattle.byteorder.specs.Endian.{big_bytes}
use Rattle.sh_base.specs.declared.config.ConfigParts.{ConfigParts}
use Rattle.sh_port.{specs.Port.{AppendsFront}, proofs.Bytes.{appends_more}}
use Rattle.sh_text.proofs.Fronts.{front_first, front_more, parts_at}
use Rattle.sh_picture.specs.Picture.{header_of, picture_of}

-- the picture of the first words, and what comes behind
parts : (p : ConfigParts) (words : List ℕ) (at : ℕ) → picture_of p words ≡ picture_of p (take at words) ++ flat_map (big_bytes 8) (drop at words)
parts p words at = ap (λ t. header_of p ++ t) (parts_at (big_bytes 8) words at) ∙ sym (append_assoc (header_of p) (flat_map (big_bytes 8) (take at words)) (flat_map (big_bytes 8) (drop at words)))

-- one piece more
slices : (words : List ℕ) (at end : ℕ) → at ≤ end → take end words ≡ take at words ++ take (end - at) (drop at words)
slices words at end le = let e : end ≡ at + (end - at) = omega (arith, le) in ap (λ n. take n words) e ∙ take-add at (end - at) words

pub piece_more : (a b c : Option (List ℕ)) (p : ConfigParts) (words : List ℕ) (at end : ℕ) → at ≤ end → Appends a b (picture_of p (take at words)) → Appends b c (flat_map (big_bytes 8) (take (end - at) (drop at words))) → Appends a c (picture_of p (take end words))
piece_more a b c p words at end le h k =
    let front = take at words in
    let piece = take (end - at) (drop at words) in
    let e : picture_of p front ++ flat_map (big_bytes 8) piece ≡ picture_of p (take end words) =
    append_assoc (header_of p) (flat_map (big_bytes 8) front) (flat_map (big_bytes 8) piece)
    ∙ ap (λ t. header_of p ++ t) (sym (flat_map-append (big_bytes 8) front piece) ∙ ap (flat_map (big_bytes 8)) (sym (slices words at end le))) in
    subst (Appends a c) e (appends_more a b c (picture_of p front) (flat_map (big_bytes 8) piece) h k)

-- where the first piece stops, and where a later one does
pub piece_first : (a b : Option (List ℕ)) (p : ConfigParts) (words : List ℕ) (at : ℕ) → AppendsFront a b (picture_of p (take at words)) → AppendsFront a b (picture_of p words)
piece_first a b p words at f = subst (AppendsFront a b) (sym (parts p words at)) (front_first a b (picture_of p (take at words)) (flat_map (big_bytes 8) (drop at words)) f)

pub front_later : (a b c : Option (List ℕ)) (p : ConfigParts) (words : List ℕ) (at end : ℕ) → at ≤ end → Appends a b (picture_of p (take at words)) → AppendsFront b c (flat_map (big_bytes 8) (take (end - at) (drop at words))) → AppendsFront a c (picture_of p words)
front_later a b c p words at end le h f =
    let behind = flat_map (big_bytes 8) (drop (end - at) (drop at words)) in
    front_more a b c (picture_of p (take at words)) (flat_map (big_bytes 8) (take (end - at) (drop at words))) behind (picture_of p words)
    (parts p words at ∙ ap (λ t. picture_of p (take at words) ++ t) (parts_at (big_bytes 8) (drop at words) (end - at))) h f
