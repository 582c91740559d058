-- What the stored symbols and version needs mean.
use Rattle.elf.specs.declared.symbol.Definition.{Definition as StoredDefinition}
use Rattle.elf.specs.declared.symbol.Reference.{Reference as StoredReference}
use Rattle.elf.specs.declared.symbol.VersionNeed.{VersionNeed as StoredNeed}
use Rattle.elf.specs.Names.{bytes_of}
use Rattle.elf.specs.Meaning.{Definition, Reference, VersionNeed}

abbrev pub definition_of : StoredDefinition → Definition
definition_of d =
    record {
      number = d.number;
      name = d.name.now;
      index = d.index;
      hidden = d.hidden;
      weak = d.weak;
      protected = d.protected;
      version = bytes_of d.version;
    }

abbrev pub reference_of : StoredReference → Reference
reference_of r =
    record {
      number = r.number;
      name = r.name.now;
      weak = r.weak;
      protected = r.protected;
      own = r.own;
      version = bytes_of r.version;
    }

abbrev pub need_of : StoredNeed → VersionNeed
need_of n = record { file = n.file.now; version = n.version.now; weak = n.weak }
