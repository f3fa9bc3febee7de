-- A choice is lawful, since each ladder is.
use Rattle.crdt_laws.specs.Tower.{IsLawful}
use Rattle.flag_crdts.specs.declared.choice.Choice.{Choice}
use Rattle.flag_crdts.specs.declared.choice.Choice.TheVariants.{Two, Three, Four, Five, Six, Seven, Eight}
use Rattle.flag_crdts.specs.Choice.{size_of}
use Rattle.flag_crdts.specs.Ladder.{ladder_meaning}
use Rattle.flag_crdts.specs.LadderLaws.{ladder_lawful}

pub choice_lawful : (c : Choice) → IsLawful (ladder_meaning (size_of c))
choice_lawful (Two ladder) = ladder_lawful 2 ladder.size
choice_lawful (Three ladder) = ladder_lawful 3 ladder.size
choice_lawful (Four ladder) = ladder_lawful 4 ladder.size
choice_lawful (Five ladder) = ladder_lawful 5 ladder.size
choice_lawful (Six ladder) = ladder_lawful 6 ladder.size
choice_lawful (Seven ladder) = ladder_lawful 7 ladder.size
choice_lawful (Eight ladder) = ladder_lawful 8 ladder.size
