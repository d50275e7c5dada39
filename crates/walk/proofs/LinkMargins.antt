-- Links lent as the middle of a list: of 4,226 entries there are 65 on both sides of them.
-- Assumes nothing.
use Rattle.std.proofs.Common.{◌≡◌, ℕ, ◌-◌, List, ◌++◌, length, take, drop, sym, ◌∙◌, subst, arith, length-append, length-drop, length-take-le, drop_at}
use lib.ListN.{get_or-append}
use Rattle.rules.specs.Land.{Rule}
use Rattle.rules.specs.Links.{Linkage}
use Rattle.walk.specs.Walk.{Margin}

-- what stands there are links with a margin
pub margin : {R : Rule} {w : ℕ} {heights marks r part : List ℕ} (links : List ℕ) → length links ≡ 4226
    → length part ≡ length (take 4096 (drop 65 links)) → Linkage R w heights marks part r
    → Margin R w heights marks (take 65 links ++ (part ++ drop 4096 (drop 65 links))) r
margin {R} {w} {heights} {marks} {r} {part} links g h K =
    let few = K.tile.grid.few in
    let fits = K.fits_links in
    let s = length-append part (drop 4096 (drop 65 links)) in
    record {
      inside =
          subst (λ (l : List ℕ). Linkage R w heights marks l r)
          (sym (drop_at (take 65 links) (part ++ drop 4096 (drop 65 links)) 65 (length-take-le 65 links (omega arith))))
          (record {
            is_rule = K.is_rule;
            tile = K.tile;
            fits_links = omega arith;
            drains = K.drains;
            beside = K.beside;
            masks = λ c i. get_or-append part (drop 4096 (drop 65 links)) 0 c (omega arith) ∙ K.masks c i;
          });
      wide =
          let x : length (drop 65 links) ≡ length links - 65 = length-drop 65 links in
          let y : length (drop 4096 (drop 65 links)) ≡ length (drop 65 links) - 4096 = length-drop 4096 (drop 65 links) in
          let z : length (take 4096 (drop 65 links)) ≡ 4096 = length-take-le 4096 (drop 65 links) (omega arith) in
          let q : length (take 65 links) ≡ 65 = length-take-le 65 links (omega arith) in
          let u = length-append (take 65 links) (part ++ drop 4096 (drop 65 links)) in
          omega arith;
    }
