-- Tables with nothing mapped are sound: fresh ones, and those that a restore starts from.
use Prim.Native.Nat.{ℕ, zero, suc, ◌+◌, ◌*◌, ◌-◌, ◌≤◌, ◌<◌}
use native.Mathlib.Nat.{zero-mul}
use native.Mathlib.Omega.{arith}
use mathlib.Core.Path.{◌≡◌, refl, sym, ap, ◌∙◌}
use mathlib.Core.Bool.{Bool, true, false, cond}
use mathlib.Core.List.{List, [], ◌∷◌, ◌++◌}
use lib.Dec.{ltb}
use lib.ListN.{length, get_or, take, replicate, length-append, length-replicate, get_or-replicate, get_or-append}
use lib.Seq.{get_or-append-add}
use borrow.Author.Tests.{ltb-true}
use Rattle.model.specs.Lists.{slot, zeros}
use Rattle.model.specs.Numbers.{Geometry, Good, empty}
use Rattle.model.specs.Tables.{at}
use Rattle.model.specs.Checkpoint.{bare, opened, used_by}
use Rattle.model.proofs.Working.{Counted}
use Rattle.model.proofs.Slots.{by_end, past_end, part_fits, drop-zeros, take-zeros}
use Rattle.model.proofs.Counts.{occ_nil}
use Rattle.model.proofs.Reading.{names-empty}
pub use Rattle.model.proofs.Slots.{at-replicate, same_replicate}

slot-zeros : (p g m : ℕ) → g * p + p ≤ m → slot p g (zeros m) ≡ zeros p
slot-zeros p g m h = ap (take p) (drop-zeros (g * p) m) ∙ take-zeros p (m - g * p) (omega arith)

-- the use marks of a segment with x free pages
chunk : ℕ → ℕ → List ℕ
chunk p x = replicate (p - x) 1 ++ zeros x

chunk_length : (p x : ℕ) → x ≤ p → length (chunk p x) ≡ p
unfolding chunk
chunk_length p x h = simp (length-append, length-replicate) (omega arith)

chunk_one : (p x k : ℕ) → x ≤ p → k + x < p → at (chunk p x) k ≡ 1
unfolding chunk
chunk_one p x k h b =
    let c : k < p - x = omega arith in
    get_or-append (replicate (p - x) 1) (zeros x) 0 k (rw (length-replicate {A = ℕ} (p - x) 1) c) ∙ get_or-replicate (p - x) k 1 0 c

chunk_zero : (p x k : ℕ) → x ≤ p → p ≤ k + x → at (chunk p x) k ≡ 0
unfolding chunk
chunk_zero p x k h b =
    let e : k ≡ length (replicate {A = ℕ} (p - x) 1) + (k - (p - x)) = omega (arith, length-replicate {A = ℕ} (p - x) 1) in
    ap (at (chunk p x)) e ∙ get_or-append-add (replicate (p - x) 1) (zeros x) (k - (p - x)) 0 ∙ same_replicate x 0 (k - (p - x))

-- all use marks, segment by segment
used_at : (p : ℕ) (free : List ℕ) → ((g : ℕ) → at free g ≤ p) → (g k : ℕ) → g < length free → k < p
    → at (used_by p free) (g * p + k) ≡ at (chunk p (at free g)) k
unfolding used_by chunk
used_at p [] h g k hg hk = absurd (omega arith)
used_at p (x ∷ xs) h zero k hg hk =
    let e : 0 * p + k ≡ k = omega arith in
    ap (at (chunk p x ++ used_by p xs)) e ∙ get_or-append (chunk p x) (used_by p xs) 0 k (rw (chunk_length p x (h 0)) hk)
used_at p (x ∷ xs) h (suc g) k hg hk =
    let e : suc g * p + k ≡ length (chunk p x) + (g * p + k) = omega (arith, chunk_length p x (h 0)) in
    ap (at (chunk p x ++ used_by p xs)) e
    ∙ get_or-append-add (chunk p x) (used_by p xs) (g * p + k) 0
    ∙ used_at p xs (λ j. h (suc j)) g k (omega arith) hk

used_length : (p : ℕ) (free : List ℕ) → ((g : ℕ) → at free g ≤ p) → length (used_by p free) ≡ length free * p
unfolding used_by chunk
used_length p [] h = sym (zero-mul p)
used_length p (x ∷ xs) h =
    length-append (chunk p x) (used_by p xs) ∙ omega (arith, chunk_length p x (h 0), used_length p xs (λ j. h (suc j)))

pub bare_sound : (G : Geometry) (free : List ℕ) (alloc : ℕ) → length free ≡ G.n → ((g : ℕ) → at free g ≤ G.p) → alloc < G.n
    → Counted G (bare G free alloc)
bare_sound G free alloc len le below =
    record {
      sized =
          record {
            map = length-replicate G.e empty;
            free = len;
            valid = length-replicate G.n 0;
            used = used_length G.p free le ∙ ap (λ x. x * G.p) len;
            lists = length-replicate (G.n * G.p) 0;
            lens = length-replicate G.n 0;
            queue = length-replicate G.n 0;
            flags = length-replicate G.n 0;
          };
      free≤ = le;
      marked = λ g k hg h. used_at G.p free le g k (rw len hg) (omega arith) ∙ chunk_one G.p _ k (le g) h;
      clear = λ g k hg hk h. used_at G.p free le g k (rw len hg) hk ∙ chunk_zero G.p _ k (le g) h;
      lens≤ = λ g. omega (arith, zero g);
      valid≤ = λ g. omega (arith, zero g, le g);
      seg< = λ l m. absurd (m (unmapped l));
      page< = λ l m. absurd (m (unmapped l));
      apart = λ l x m. absurd (m (unmapped l));
      listed = λ l g h. rw (zero g, unmapped l) (occ_nil l ∙ sym (names-empty G g));
      tails = λ g h. rw (zero g) (slot-zeros G.p g (G.n * G.p) (part_fits G.p h) ∙ ap zeros (whole G.p));
      once = λ g. rw (occ_nil g) (omega arith);
      flag≤ = λ g. omega (arith, zero g);
      full = λ g h. absurd (never g h);
      queued≤ = omega arith;
      behind = ap zeros (whole G.n);
      alloc< = below;
    }
  where
    zero : (g : ℕ) → at (zeros G.n) g ≡ 0
    zero = same_replicate G.n 0

    unmapped : (l : ℕ) → get_or (replicate G.e empty) l empty ≡ empty
    unmapped = same_replicate G.e empty

    whole : (m : ℕ) → m ≡ m - 0
    whole m = omega arith

    never : (g : ℕ) → 0 < at (zeros G.n) g → ⊥
    never g h = omega (arith, same_replicate G.n 0 g)

pub opened_sound : (G : Geometry) → Good G → (alloc : ℕ) → Counted G (opened G alloc)
opened_sound G K alloc = bare_sound G (replicate G.n G.p) _ (length-replicate G.n G.p) bound (go (ltb alloc G.n) refl)
  where
    bound : (g : ℕ) → at (replicate G.n G.p) g ≤ G.p
    bound =
        by_end (λ g. at (replicate G.n G.p) g ≤ G.p) G.n (λ g b. omega (arith, get_or-replicate G.n g G.p 0 b))
        (λ g b. omega (arith, past_end (replicate G.n G.p) G.n g (length-replicate G.n G.p) b))

    go : (b : Bool) → ltb alloc G.n ≡ b → cond b alloc 0 < G.n
    go true e = ltb-true _ _ e
    go false e = K.n≥
