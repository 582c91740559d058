-- What a book's lists mean: a catalogue.
use Rattle.std.specs.Prelude.{List, map, vec_items}
use Rattle.elf.specs.Names.{bytes_of, names_of}
use Rattle.elf.specs.Meaning.{Object}
use Rattle.elf.specs.Stored.{definition_of, reference_of, need_of}
use Rattle.book.specs.declared.object.BookObject.{BookObject}

-- An object of a book.
abbrev pub object_of : BookObject → Object
object_of o =
    record {
      symbolic = o.symbolic;
      versioned = o.versioned;
      soname = bytes_of o.soname;
      needed = names_of (vec_items o.needed);
      needs = map need_of (vec_items o.needs);
      versions = map (λ v. v.0.now) (vec_items o.versions);
      definitions = map definition_of (vec_items o.definitions);
      references = map reference_of (vec_items o.references);
    }

-- The objects of a book.
abbrev pub objects_of : List BookObject → List Object
objects_of os = map object_of os
