-- Parts taken in one after the other are their join taken in, and so are words, slice by slice.
use Rattle.std.proofs.Common.{◌≡◌, ℕ, List, [], ◌∷◌, ◌++◌, ◌<◌, ◌^◌, length, sym, ap, ◌∙◌, arith, lit<}
use Rattle.crc32.specs.Crc32.{after}
use Rattle.crc32.proofs.Laws.{after_nil, after-append}
use Rattle.model.specs.Checkpoint.{words}
use Rattle.model.proofs.Bytes.{words_append}

-- the state after all of xs
pub record Taken (xs : List ℕ) (state : ℕ) : Type 0 where
  pub is : state ≡ after 0xFFFFFFFF xs

pub more : {xs : List ℕ} {x y : ℕ} → Taken xs x → (ys : List ℕ) → y ≡ after x ys → Taken (xs ++ ys) y
more {xs} t ys f = record { is = f ∙ ap (λ (s : ℕ). after s ys) t.is ∙ sym (after-append 0xFFFFFFFF xs ys (lit< tt)) }

pub no_words : (s : ℕ) (ws : List ℕ) → s < 2 ^ 32 → length ws ≡ 0 → s ≡ after s (words ws)
unfolding words
no_words s [] h e = sym (after_nil s h)
no_words s (w ∷ ws) h e = absurd (omega arith)

pub next_words : (s : ℕ) (all part rest : List ℕ) {x : ℕ} → s < 2 ^ 32 → all ≡ part ++ rest → x ≡ after s (words part) → after x (words rest) ≡ after s (words all)
next_words s all part rest h e f =
    ap (λ y. after y (words rest)) f
    ∙ sym (ap (λ l. after s (words l)) e ∙ ap (after s) (words_append part rest) ∙ after-append s (words part) (words rest) h)
