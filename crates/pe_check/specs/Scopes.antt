-- Where the code resolves names, as the definitions see it.
use Rattle.pe_check.specs.declared.resolve.Scope.{Scope}
use Rattle.pe_check.specs.FieldNames.{names_view}
use Rattle.pe_check.specs.Resolving.{Context}

abbrev pub context_of : Scope → Context
context_of scope = record { sort = scope.sort; dim = scope.dim; names = names_view scope.names.now }
