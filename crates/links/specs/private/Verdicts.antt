-- The number of a verdict, as marks hold it. It relies on Judging.antt.
use Rattle.std.specs.Prelude.{ℕ}
use Rattle.links.specs.declared.mark.LinkVerdict.{LinkVerdict}
use Rattle.links.specs.declared.mark.LinkVerdict.TheVariants.{Keep, OwnPath, FromDirectory}
use Rattle.links.specs.Judging.{verdict_keep, verdict_own_path}

abbrev pub verdict_number : LinkVerdict → ℕ
verdict_number Keep = verdict_keep
verdict_number OwnPath = verdict_own_path
verdict_number FromDirectory = 2
