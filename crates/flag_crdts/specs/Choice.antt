-- How many values a choice has.
use Rattle.std.specs.Prelude.{ℕ}
use Rattle.flag_crdts.specs.declared.choice.Choice.{Choice}
use Rattle.flag_crdts.specs.declared.choice.Choice.TheVariants.{Two, Three, Four, Five, Six, Seven, Eight}

abbrev pub size_of : Choice → ℕ
size_of (Two ladder) = 2
size_of (Three ladder) = 3
size_of (Four ladder) = 4
size_of (Five ladder) = 5
size_of (Six ladder) = 6
size_of (Seven ladder) = 7
size_of (Eight ladder) = 8
