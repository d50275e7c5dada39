-- Sections, over the width and wherever in a record they stand: what was written is read, and what was read is written.
-- Assumes nothing.
use mathlib.Core.List.{[], append_assoc, append-nil, List, ◌++◌, ◌∷◌}
use mathlib.Core.Path.{ap, refl, sym, ◌∙◌, ◌≡◌}
use Prim.Native.Nat.{suc, zero, ℕ, ◌*◌, ◌+◌, ◌<◌, ◌^◌, ◌≤◌}
use native.Mathlib.Nat.{add_comm, le_of_suc-le-suc, mul-le-mul_left, mul-suc, mul-zero, not-suc-le-zero}
use native.Mathlib.Numerals.{add-one}
use native.Mathlib.Omega.{arith}
use lib.ListN.{drop, get_or, length, length-append, take}
use lib.Seq.{drop-drop, get_or-drop, get_or-take, length-take-le, take-add, take-length, take-suc}
use Rattle.std.proofs.lemmas.List.{drop_all}
use Rattle.lists.proofs.Below.{below_append}
use Rattle.lists.proofs.Flat.{flat_append}
use Rattle.lists.proofs.Stored.{stored_on}
use Rattle.lists.proofs.Stretch.{stretch-length}
use Rattle.lists.proofs.Tab.{tab-is, tab-suc}
use Rattle.lists.specs.Lists.{at, Below, flat, stored, stretch, tab}
use Rattle.sections.proofs.Numbers.{bytes_of-below, bytes_of-number_at, length-bytes_of, number_at-bytes_of, number_at_skip}
use Rattle.sections.specs.LittleEndian.{bytes_of, number_at, numbers_at, section_of}

module _ {A : Type 0} where
  -- the bytes of w for each entry
  pub length-flat : (f : A → List ℕ) (w : ℕ) → ((x : A) → length (f x) ≡ w) → (xs : List A) → length (flat f xs) ≡ w * length xs
  length-flat f w h [] = sym (mul-zero w)
  length-flat f w h (x ∷ xs) = rw (length-append, h x, length-flat f w h xs, mul-suc) (omega arith)

  -- a turn: the bytes of entry i are stored next to those of the entries before it
  pub stored_entry : {l m : List ℕ} (f : A → List ℕ) (w : ℕ) → ((x : A) → length (f x) ≡ w) → (xs : List A) (old : List ℕ) (from i : ℕ) (d : A)
      → i < length xs → from + w * length xs ≤ length old → l ≡ stored from (flat f (take i xs)) old
      → m ≡ stored (from + w * i) (f (get_or xs i d)) l → m ≡ stored from (flat f (take (i + 1) xs)) old
  stored_entry {l} {m} f w h xs old from i d lt room e s =
      let x = get_or xs i d in
      let before : length (flat f (take i xs)) ≡ w * i =
      length-flat f w h (take i xs) ∙ ap (λ (n : ℕ). w * n) (length-take-le i xs (omega arith)) in
      let more : w * (i + 1) ≤ w * length xs = mul-le-mul_left w (omega arith) in
      let fits : from + w * i + length (f x) ≤ length old = rw (h x) (omega (arith, rw (add-one, mul-suc) at more)) in
      let turn : flat f (take (i + 1) xs) ≡ flat f (take i xs) ++ f x =
      rw (add-one, take-suc xs i d, flat_append, append-nil) in
      stored_on (flat f (take i xs)) (f x) old from (from + w * i) (ap (λ (n : ℕ). from + n) before) fits e s
      ∙ ap (λ (b : List ℕ). stored from b old) (sym turn)

  -- after the last turn a part that has just these bytes holds nothing else
  pub stored_whole : {l : List ℕ} (f : A → List ℕ) (w : ℕ) → ((x : A) → length (f x) ≡ w) → (xs : List A) (old : List ℕ) (i : ℕ)
      → i ≡ length xs → length old ≡ w * length xs → l ≡ stored 0 (flat f (take i xs)) old → l ≡ flat f xs
  stored_whole f w h xs old i e k s =
      let all : take i xs ≡ xs = rw (e, take-length) in
      let none : drop (0 + length (flat f xs)) old ≡ [] = drop_all (0 + length (flat f xs)) old (omega (arith, k, length-flat f w h xs)) in
      s ∙ rw (all, none, append-nil)

pub length-section_of : (w : ℕ) (xs : List ℕ) → length (section_of w xs) ≡ w * length xs
length-section_of w xs = length-flat (bytes_of w) w (length-bytes_of w) xs

pub section_of-below : (w : ℕ) (xs : List ℕ) → Below 256 (section_of w xs)
section_of-below w [] = λ k l. absurd (omega arith)
section_of-below w (x ∷ xs) = below_append 256 (bytes_of w x) (section_of w xs) (bytes_of-below w x) (section_of-below w xs)

-- the section of a list of bytes is the list
pub section_of_bytes : (xs : List ℕ) → flat (λ x. x ∷ []) xs ≡ xs
section_of_bytes [] = refl
section_of_bytes (x ∷ xs) = ap (λ (l : List ℕ). x ∷ l) (section_of_bytes xs)

-- and the n bytes of it from an index on, one by one, are that stretch
pub bytes_read : (s : List ℕ) (from n : ℕ) → from + n ≤ length s → tab n (λ k. at s (from + 1 * k)) ≡ stretch from n s
bytes_read s from n h =
    tab-is (λ k. at s (from + 1 * k)) (stretch from n s) n 0 (stretch-length from n s h)
    (λ k l. ap (at s) (omega arith) ∙ sym (get_or-take n (drop from s) k 0 l ∙ get_or-drop from s k 0))

number_at-section_of : (w : ℕ) (xs q : List ℕ) (i : ℕ) → i < length xs → at xs i < 256 ^ w
    → number_at w (section_of w xs ++ q) (w * i) ≡ at xs i
number_at-section_of w [] q i h k = absurd (not-suc-le-zero h)
number_at-section_of w (x ∷ xs) q zero h k = rw (mul-zero, append_assoc) (number_at-bytes_of w x (section_of w xs ++ q) k)
number_at-section_of w (x ∷ xs) q (suc i) h k =
    let e : w * suc i ≡ length (bytes_of w x) + w * i = rw (mul-suc, length-bytes_of, add_comm) in
    rw (append_assoc, e)
    (number_at_skip w (bytes_of w x) (section_of w xs ++ q) (w * i) ∙ number_at-section_of w xs q i (le_of_suc-le-suc h) k)

-- a section between its front p and its rest q is read as the list that it was written from
pub numbers_at-section_of : (w : ℕ) (p xs q : List ℕ) (from n : ℕ) → length p ≡ from → length xs ≡ n → Below (256 ^ w) xs
    → numbers_at w (p ++ (section_of w xs ++ q)) from n ≡ xs
numbers_at-section_of w p xs q from n e f b =
    tab-is (λ k. number_at w (p ++ (section_of w xs ++ q)) (from + w * k)) xs n 0 f
    (λ k l. rw (← e) (number_at_skip w p (section_of w xs ++ q) (w * k) ∙ number_at-section_of w xs q k (rw f l) (b k (rw f l))))

-- the numbers of a section, written again, are the stretch that they were read from
pub section_of-numbers_at : (w : ℕ) (s : List ℕ) (from n : ℕ) → Below 256 s → from + w * n ≤ length s
    → section_of w (numbers_at w s from n) ≡ stretch from (w * n) s
section_of-numbers_at w s from zero b h = rw mul-zero
section_of-numbers_at w s from (suc n) b h =
    let m : w * suc n ≡ w * n + w = mul-suc w n in
    ap (section_of w) (tab-suc (λ k. number_at w s (from + w * k)) n)
    ∙ rw (m, take-add, drop-drop, flat_append, append-nil)
    (rw (section_of-numbers_at w s from n b (omega arith), bytes_of-number_at w s (from + w * n) b (omega arith)))
