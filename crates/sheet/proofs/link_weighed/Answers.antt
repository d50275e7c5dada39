-- `sheet::link_weighed` meets its contract: the weights lead to the receivers of sheet flow, and of 4,226 entries the middle 4,096 are lent for
-- the links (Linked).
-- Assumes nothing.
use Rattle.std.proofs.Common.{◌≡◌, ℕ, ◌-◌, List, ◌++◌, length, take, drop, arith, length-append, length-drop, length-take-le, rules}
use Rattle.links.specs.Leads.{Leading}
use Rattle.lists.specs.Lists.{at}
use Rattle.rules.specs.Land.{rule_by}
use Rattle.rules.specs.Network.{receivers_by}
use Rattle.rules.specs.Tile.{tile_land}
use Rattle.sheet.proofs.Linked.{carved-tile, leading, linkage}
use Rattle.sheet.specs.SheetLinks.{Carved}
use Rattle.walk.proofs.LinkMargins.{margin}
use Rattle.rules.specs.declared.Manner.TheVariants.{Sheet}
use Rattle.sheet.proofs.link_weighed.Goals as goal
use Rattle.sheet.proofs.link_weighed.Goals.{After-sheet_weights}

leads : (c : After-sheet_weights) (heights : List ℕ) → let a = c.args in Carved a.neighbours a.w heights a.levels.now a.marks.now
    → Leading a.neighbours a.w (length a.levels.now) (at (receivers_by Sheet (tile_land (rule_by a.neighbours) a.w heights a.marks.now)))
    c.sheet_weights.new.weights
leads c heights K = leading K c.args.weights.now c.requires.levels_in_bounds c.sheet_weights.ensures

-- the links after that: their middle was work space
abbrev lent-links : After-sheet_weights → List ℕ
lent-links c =
    let l = c.args.links.now in
    take 65 l ++ (c.sheet_weights.new.likes ++ drop 4096 (drop 65 l))

lent_length : (c : After-sheet_weights) → length (lent-links c) ≡ 4226
lent_length c =
    let l : List ℕ = c.args.links.now in
    let part : List ℕ = c.sheet_weights.new.likes in
    let all : length l ≡ 4226 = c.requires.by_index.1 in
    let x : length (drop 65 l) ≡ length l - 65 = length-drop 65 l in
    let y : length (drop 4096 (drop 65 l)) ≡ length (drop 65 l) - 4096 = length-drop 4096 (drop 65 l) in
    let z : length (take 4096 (drop 65 l)) ≡ 4096 = length-take-le 4096 (drop 65 l) (omega arith) in
    let q : length (take 65 l) ≡ 65 = length-take-le 65 l (omega arith) in
    let k : length part ≡ length (take 4096 (drop 65 l)) = c.sheet_weights.auto.likes in
    let s = length-append part (drop 4096 (drop 65 l)) in
    let u = length-append (take 65 l) (part ++ drop 4096 (drop 65 l)) in
    omega arith

pub sheet_weights-requires : goal.sheet_weights-requires
sheet_weights-requires c =
    let (heights, K) = c.requires.by_index.0 in
    let few = (carved-tile K).grid.few in
    (carved-tile K, c.requires.levels_in_bounds, search rules)

pub link_leads-requires : goal.link_leads-requires
link_leads-requires c =
    let (heights, K) = c.requires.by_index.0 in
    let few = (carved-tile K).grid.few in
    ((_, leads (goal.at.link_leads-requires c).After-sheet_weights heights K), search rules)

pub returns : goal.returns
returns c =
    let at-place = (goal.at.returns c).After-sheet_weights in
    λ heights K.
    let few = (carved-tile K).grid.few in
    let links = lent-links at-place in
    margin links (lent_length at-place) c.link_leads.auto.links
    (linkage K (take 4096 (drop 65 links)) (search rules) (c.link_leads.ensures _ (leads at-place heights K)))
