-- What the answer of the function that reads a file line says. It relies on Form.antt and on the record of src/form.rt.
use Rattle.std.specs.Prelude.{Option, Some, None}
use Rattle.listing_input.specs.Form.{FileEntry}
use Rattle.listing_input.specs.declared.form.FileLine.{FileLine}

abbrev pub file_says : Option FileLine → Option FileEntry
file_says (Some l) = Some (record { size = l.size; flags = l.flags; path = l.path.now })
file_says None = None
