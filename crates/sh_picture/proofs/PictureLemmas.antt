-- Numbers as bytes and back, and the parts of a picture.
use Rattle.std.specs.Prelude.{slice_index}
use Rattle.std.proofs.Common.{rules, ◌≡◌, ℕ, zero, suc, ◌+◌, ◌*◌, ◌^◌, ◌<◌, ◌≤◌, List, [], ◌∷◌, ◌++◌, length, get_or, take, drop, refl, sym, ap, ◌∙◌, length-append, length-drop, append_assoc, ◌-◌, arith}
use Rattle.std.{specs.List.{flat_map}, proofs.{Math.Nat.{add-mul, mod-lt, mul-le-mul_right, one-le-pow}, lemmas.Bool.{cases_lt}}}
use Rattle.std.proofs.lemmas.List.{append-nil, drop_all, take_at, drop_at, take_rest, take-append-drop, drop-drop, get_or-drop, get_or-take, ext_get_or, length-take-le}
use borrow.Rule.Slice.PartMut.{put_mid}
use Rattle.std.specs.Int.{byte_at}
use Rattle.byteorder.specs.{Endian.{big_bytes, big_number, IsRead}, Numbers.{big_from-cons, big_from-lt, big_from-take, big_number-reads_back, length-bytes_high_first}}
use Rattle.sh_base.specs.{declared.config.ConfigParts.{ConfigParts}, Setting.{all_locks, pool_words}, Layout.{lock_word}}
use Rattle.sh_picture.specs.{Picture.{header_of, magic, number_in, setting_numbers, numbers_spelled, parts_spelled, picture_of, words_in}, Fault.{HasWords}}

pub has_lock : (p : ConfigParts) (lock : ℕ) → lock < all_locks p → lock_word p lock < pool_words p
unfolding pool_words
has_lock p lock below = omega (arith, below)

pub has_zero : (p : ConfigParts) → 0 < pool_words p
unfolding pool_words
has_zero p = omega arith

-- each of the bytes is a byte
abbrev pub AreBytes : List ℕ → Type 0
AreBytes xs = (k : ℕ) → slice_index xs k < 256

pub bytes_behind : (n : ℕ) (xs : List ℕ) → AreBytes xs → AreBytes (drop n xs)
bytes_behind n xs h = λ k. rw (get_or-drop n xs k 0) (h (n + k))

-- ---- a number of the numbers that some bytes spell
pub number_read : (width count i : ℕ) (bytes : List ℕ) → i < count → get_or (numbers_spelled width count bytes) i 0 ≡ big_number width (drop (width * i) bytes)
number_read width zero i bytes below = absurd (omega (arith, below))
number_read width (suc count) zero bytes below = let e : width * 0 ≡ 0 = omega arith in rw e refl
number_read width (suc count) (suc i) bytes below =
    let e : width + width * i ≡ width * suc i = grind arith in
    number_read width count i (drop width bytes) (omega (arith, below)) ∙ ap (big_number width) (drop-drop (width * i) width bytes ∙ ap (λ n. drop n bytes) e)

pub numbers_read : (width : ℕ) (bytes numbers : List ℕ) → IsRead big_number width bytes numbers → numbers ≡ numbers_spelled width (length numbers) bytes
numbers_read width bytes [] h = refl
numbers_read width bytes (x ∷ xs) h =
    let none : width * 0 ≡ 0 = omega arith in
    let head : x ≡ big_number width bytes = h 0 (omega arith) ∙ ap (λ n. big_number width (drop n bytes)) none in
    let rest = numbers_read width (drop width bytes) xs (λ k lt.
    let e : width * suc k ≡ width + width * k = grind arith in
    h (suc k) (omega (arith, lt)) ∙ ap (big_number width) (ap (λ n. drop n bytes) e ∙ sym (drop-drop (width * k) width bytes))) in
    λ t. head t ∷ rest t

-- ---- bytes are those of the numbers that they spell
same_parts : (a b m r s : ℕ) → r < m → s < m → a * m + r ≡ b * m + s → (a ≡ b) × (r ≡ s)
same_parts a b m r s rm sm e = search (rules, cases_lt, mul-le-mul_right, add-mul)

pub same_bytes : (n : ℕ) (xs ys : List ℕ) → length xs ≡ n → length ys ≡ n → AreBytes xs → AreBytes ys → big_number n xs ≡ big_number n ys → xs ≡ ys
same_bytes zero [] [] lx ly hx hy e = refl
same_bytes zero [] (y ∷ ys) lx ly hx hy e = absurd (omega (arith, ly))
same_bytes zero (x ∷ xs) ys lx ly hx hy e = absurd (omega (arith, lx))
same_bytes (suc n) [] ys lx ly hx hy e = absurd (omega (arith, lx))
same_bytes (suc n) (x ∷ xs) [] lx ly hx hy e = absurd (omega (arith, ly))
same_bytes (suc n) (x ∷ xs) (y ∷ ys) lx ly hx hy e =
    let tx : AreBytes xs = λ k. hx (suc k) in
    let ty : AreBytes ys = λ k. hy (suc k) in
    let parts : x * 256 ^ n + big_number n xs ≡ y * 256 ^ n + big_number n ys = ap (λ r. x * 256 ^ n + r) (sym (big_from-cons 0 n x xs)) ∙ e ∙ ap (λ r. y * 256 ^ n + r) (big_from-cons 0 n y ys) in
    let same = same_parts x y (256 ^ n) (big_number n xs) (big_number n ys) (big_from-lt 0 n xs tx) (big_from-lt 0 n ys ty) parts in
    let rest = same_bytes n xs ys (omega (arith, lx)) (omega (arith, ly)) tx ty same.1 in
    λ t. same.0 t ∷ rest t

-- ---- how long the parts are
pub header_long : (p : ConfigParts) → length (header_of p) ≡ 56
unfolding header_of
header_long p = refl

pub words_long : (words : List ℕ) → length (flat_map (big_bytes 8) words) ≡ 8 * length words
words_long [] = refl
words_long (w ∷ words) = length-append (big_bytes 8 w) (flat_map (big_bytes 8) words) ∙ omega (arith, words_long words)

-- ---- what is written into slices
-- a slice whose first n elements are `head`, and behind them `ys`
pub put_behind : {X : Type 0} (n k : ℕ) (head rest ys : List X) → length head ≡ n → length rest ≤ k → put_mid n k (head ++ rest) ys ≡ head ++ ys
put_behind n k head rest ys is long = search (rules, take_at, drop_all, drop_at, append-nil)

-- ---- what is read
pub number_is : (bytes : List ℕ) (i result : ℕ) → i < 12 → result ≡ big_number 4 (take (length bytes - (8 + 4 * i)) (drop (8 + 4 * i) bytes)) → result ≡ number_in bytes i
unfolding number_in
number_is bytes i result below e =
    e ∙ ap (big_number 4) (take_rest bytes (8 + 4 * i) ∙ sym (drop-drop (4 * i) 8 bytes)) ∙ sym (number_read 4 12 i (drop 8 bytes) below)

pub words_are : (bytes dst items : List ℕ) (len count : ℕ) → length dst ≡ len → length dst ≡ count → IsRead big_number 8 (take (length bytes - 56) (drop 56 bytes)) dst → take len (dst ++ drop (length dst) items) ≡ numbers_spelled 8 count (drop 56 bytes)
words_are bytes dst items len count is_len is_count h =
    take_at dst (drop (length dst) items) len is_len ∙ numbers_read 8 _ dst h ∙ (λ t. numbers_spelled 8 (is_count t) (take_rest bytes 56 t))

pub numbers_long : (width count : ℕ) (bytes : List ℕ) → length (numbers_spelled width count bytes) ≡ count
numbers_long width zero bytes = refl
numbers_long width (suc count) bytes = omega (arith, numbers_long width count (drop width bytes))

pub words_is : (bytes words : List ℕ) (p : ConfigParts) → p ≡ parts_spelled bytes → words ≡ numbers_spelled 8 (pool_words p) (drop 56 bytes) → words ≡ words_in bytes
unfolding words_in
words_is bytes words p is e = e ∙ ap (λ (q : ConfigParts). numbers_spelled 8 (pool_words q) (drop 56 bytes)) is

-- each number has so many bytes
numbers_small : (width count : ℕ) (bytes : List ℕ) → AreBytes bytes → (i : ℕ) → get_or (numbers_spelled width count bytes) i 0 < 256 ^ width
numbers_small width zero bytes h i = let some : 1 ≤ 256 ^ width = one-le-pow width 256 (omega arith) in omega (arith, some)
numbers_small width (suc count) bytes h zero = big_from-lt 0 width bytes h
numbers_small width (suc count) bytes h (suc i) = numbers_small width count (drop width bytes) (bytes_behind width bytes h) i

pub words_small : (count : ℕ) (bytes : List ℕ) → AreBytes bytes → (i : ℕ) → slice_index (numbers_spelled 8 count (drop 56 bytes)) i < 2 ^ 64
words_small count bytes h i = numbers_small 8 count (drop 56 bytes) (bytes_behind 56 bytes h) i

-- ---- the bytes of the numbers that were read are the bytes
byte_small : (n x : ℕ) → byte_at n x < 256
byte_small n x = search (rules, mod-lt)

are_bytes : (n x : ℕ) → AreBytes (big_bytes n x)
are_bytes zero x k = omega arith
are_bytes (suc n) x zero = byte_small n x
are_bytes (suc n) x (suc k) = are_bytes n x k

bytes_front : (n : ℕ) (xs : List ℕ) → AreBytes xs → AreBytes (take n xs)
bytes_front zero xs h k = omega arith
bytes_front (suc n) [] h k = omega arith
bytes_front (suc n) (x ∷ xs) h zero = h 0
bytes_front (suc n) (x ∷ xs) h (suc k) = bytes_front n xs (λ j. h (suc j)) k

number_back : (n : ℕ) (bytes : List ℕ) → n ≤ length bytes → AreBytes bytes → big_bytes n (big_number n bytes) ≡ take n bytes
number_back n bytes long h =
    let x = big_number n bytes in
    let back : big_number n (big_bytes n x) ≡ x = ap (big_number n) (sym (append-nil (big_bytes n x))) ∙ big_number-reads_back n x [] (big_from-lt 0 n bytes h) in
    same_bytes n (big_bytes n x) (take n bytes) (length-bytes_high_first n x) (length-take-le n bytes long) (are_bytes n x) (bytes_front n bytes h) (back ∙ sym (big_from-take 0 n n bytes (omega arith)))

pub numbers_back : (width count : ℕ) (bytes : List ℕ) → width * count ≤ length bytes → AreBytes bytes → flat_map (big_bytes width) (numbers_spelled width count bytes) ++ drop (width * count) bytes ≡ bytes
numbers_back width zero bytes long h = let e : width * 0 ≡ 0 = omega arith in rw e refl
numbers_back width (suc count) bytes long h =
    let size : width * suc count ≡ width + width * count = grind arith in
    let rest = numbers_back width count (drop width bytes) (omega (arith, long, size, length-drop width bytes)) (bytes_behind width bytes h) in
    let behind : drop (width * suc count) bytes ≡ drop (width * count) (drop width bytes) = ap (λ n. drop n bytes) size ∙ sym (drop-drop (width * count) width bytes) in
    append_assoc (big_bytes width (big_number width bytes)) (flat_map (big_bytes width) (numbers_spelled width count (drop width bytes))) (drop (width * suc count) bytes)
    ∙ (λ t. number_back width bytes (omega (arith, long, size)) h t ++ (flat_map (big_bytes width) (numbers_spelled width count (drop width bytes)) ++ behind t))
    ∙ ap (λ l. take width bytes ++ l) rest
    ∙ take-append-drop width bytes

-- ---- a picture is that of its setting and its words
magic_front : (bytes : List ℕ) → 8 ≤ length bytes → ((i : ℕ) → i < 8 → slice_index bytes i ≡ slice_index magic i) → take 8 bytes ≡ magic
magic_front bytes long h = search (rules, length-take-le, ext_get_or, get_or-take)

setting_spelled : (bytes : List ℕ) → setting_numbers (parts_spelled bytes) ≡ numbers_spelled 4 12 (drop 8 bytes)
unfolding number_in
setting_spelled bytes = refl

pub picture_back : (bytes : List ℕ) → AreBytes bytes → HasWords bytes → bytes ≡ picture_of (parts_spelled bytes) (words_in bytes)
unfolding header_of words_in
picture_back bytes h w =
    let p = parts_spelled bytes in
    let long = w.long in
    let some = w.setting.begins.long in
    let front = magic_front bytes (omega (arith, some)) w.setting.begins.magic in
    let eight : length (drop 8 bytes) ≡ length bytes - 8 = length-drop 8 bytes in
    let numbers : drop 8 bytes ≡ flat_map (big_bytes 4) (setting_numbers p) ++ drop 56 bytes =
    sym (numbers_back 4 12 (drop 8 bytes) (omega (arith, eight, some)) (bytes_behind 8 bytes h))
    ∙ (λ t. flat_map (big_bytes 4) (sym (setting_spelled bytes) t) ++ drop-drop 48 8 bytes t) in
    let behind : length (drop 56 bytes) ≡ 8 * pool_words p = omega (arith, length-drop 56 bytes, long) in
    let words : drop 56 bytes ≡ flat_map (big_bytes 8) (numbers_spelled 8 (pool_words p) (drop 56 bytes)) =
    sym (numbers_back 8 (pool_words p) (drop 56 bytes) (omega (arith, behind)) (bytes_behind 56 bytes h))
    ∙ ap (λ l. flat_map (big_bytes 8) (numbers_spelled 8 (pool_words p) (drop 56 bytes)) ++ l) (drop_all (8 * pool_words p) (drop 56 bytes) (omega (arith, behind)))
    ∙ append-nil _ in
    sym (take-append-drop 8 bytes)
    ∙ (λ t. front t ++ numbers t)
    ∙ ap (λ l. magic ++ (flat_map (big_bytes 4) (setting_numbers p) ++ l)) words
    ∙ sym (append_assoc magic (flat_map (big_bytes 4) (setting_numbers p)) (flat_map (big_bytes 8) (numbers_spelled 8 (pool_words p) (drop 56 bytes))))
