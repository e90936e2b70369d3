-- A file that passes, its words read in and its use marks set: the walk over the map begins, and ends as the definition says.
use Rattle.std.proofs.Common.{◌≡◌, ◌+◌, ◌*◌, ◌≤◌, ℕ, List, ap, ap₂, ◌∙◌}
use Rattle.model.specs.declared.Geometry.{Geometry}
use Rattle.model.specs.Lists.{zeros}
use Rattle.model.specs.Numbers.{Good}
use Rattle.model.specs.Tables.{Tables, at, pages, set_map, set_used}
use Rattle.model.specs.Checkpoint.{used_by, bare, alloc_of, map_of, free_of, reason_of, restored_from}
use Rattle.model.proofs.Bytes.{length-read}
use Rattle.model.proofs.Sealed.{alloc_fits, free_fits}
use Rattle.checkpoint.specs.Turns.{ending, Turn}
use Rattle.checkpoint.proofs.Turning.{turn_start, ending_start}

-- t holds the words of the file, and the geometry is the same
module _ (G H : Geometry) (e : H ≡ G) (b u : List ℕ) (h : reason_of G b ≡ 0) (t : Tables)
    (read : t ≡ set_map (map_of G b) (set_used u (bare G (free_of G b) (alloc_of G b)))) where
  free_is : t.free ≡ free_of G b
  free_is = ap (λ (t : Tables). t.free) read

  pub free_least : (g : ℕ) → at t.free g ≤ H.p
  free_least = rw (free_is, e) (free_fits G b h)

  module _ (v : List ℕ) (ev : v ≡ used_by H.p t.free) where
    laid_in : set_used v t ≡ set_map (map_of G b) (bare G (free_of G b) (alloc_of G b))
    laid_in = ap₂ set_used (rw (free_is, e) at ev) read

    pub begins : (s : List ℕ) → Good G → s ≡ zeros (pages G) → Turn H 0 (set_used v t) s
    begins s K z =
        rw (e, laid_in)
        (turn_start G K (map_of G b) (free_of G b) (alloc_of G b) (length-read G.e b 44) s z (length-read G.n b (44 + 4 * G.e)) (free_fits G b h)
        (alloc_fits G b h))

    pub comes : Good G → {t' : Tables} → t' ≡ ending H 0 (set_used v t) → t' ≡ restored_from G b
    comes K q = q ∙ rw (e, laid_in) (ending_start G K (map_of G b) (free_of G b) (alloc_of G b) (length-read G.e b 44))
