-- The path that four parts compose, as the private functions pass them. It relies on Paths.antt.
use Rattle.std.specs.Prelude.{List, ℕ}
use Rattle.names.specs.declared.kept.KeptParts.{KeptParts}
use Rattle.names.specs.Paths.{composed_of}

abbrev pub composed : KeptParts → List ℕ
composed p = composed_of p.first.now p.second.now p.third.now p.last.now
