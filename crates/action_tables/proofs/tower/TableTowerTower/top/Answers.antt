use Rattle.std.proofs.Common.{rules, arith, ◌≡◌, ℕ, max, List, [], ◌∷◌}
use Rattle.std.specs.List.{fold}
use Rattle.action_tables.specs.Table.{greatest}
use Rattle.action_tables.proofs.tower.TableTowerTower.top.Goals as goal

greatest_from : (a : ℕ) (xs : List ℕ) → fold max a xs ≡ max a (greatest xs)
greatest_from a [] = omega arith
greatest_from a (x ∷ xs) = omega (arith, greatest_from (max a x) xs)

pub returns : goal.returns
returns c =
    let e : c.fold.result ≡ fold max 0 c.args.self.now.table.table.level = search rules in
    omega (arith, e, greatest_from 0 c.args.self.now.table.table.level)
