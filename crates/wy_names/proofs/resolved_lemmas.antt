-- which uses an expression has, and that its size is the same where they are summed up alike
pub mod UseLemmas
pub mod SizeLemmas
-- the law
pub mod OrderLemmas
-- a program has one fault to be given
pub mod OnceLemmas
-- nested scopes, what is lowered in them, and the templates of properties
pub mod NestedLemmas
pub mod LoweredLemmas
pub mod TemplateLemmas
-- a program has one core
pub mod CoreLemmas
-- what a walk leaves of the faults that it notes
pub mod NotesLemmas
-- what nodes show by themselves
pub mod NodeLemmas
-- how much is counted
pub mod NameFaultsSizeLemmas
-- what expressions show once properties are expanded
pub mod ExpansionLemmas
-- which uses are listed
pub mod NameFaultsUseLemmas
-- what programs show
pub mod ProgramLemmas
-- where no fault is left, none was noted
pub mod NotedLemmas
pub mod BindLemmas
-- what the names in scope lead to
pub mod ScopeLemmas
-- variables are put behind others
pub mod GrowLemmas
-- fields rise
pub mod FieldLemmas
-- a property's clauses at a use of it
pub mod InstanceLemmas
-- the walk
pub mod TypeLemmas
pub mod ExprLemmas
pub mod BlockLemmas
pub mod StmtLemmas
pub mod DeclLemmas
-- where no fault of expansions is left, none was noted
pub mod ExpandLemmas
-- the whole
pub mod OfferLemmas
pub mod ResolvedCoreLemmas
-- what is called
pub mod CallLemmas
pub mod CallStmtLemmas
pub mod CallDeclLemmas
-- which numbers stand in it
pub mod NumberLemmas
pub mod LiteralLemmas
-- where the recursion of its types passes
pub mod TypeUseLemmas
pub mod MentionLemmas
pub mod IndexLemmas
pub mod ArrowLemmas
pub mod RecursionLemmas
-- what is counted of an expression of the core, in whatever way
pub mod TallyLemmas
-- its nodes, its height and the uses of a parameter
pub mod ContentLemmas
-- a property's clauses with arguments put in
pub mod PutLemmas
-- numbers that are told apart up to a limit alone
pub mod NearLemmas
-- what is counted in the source, step by step
pub mod AfterLemmas
-- fields in order
pub mod SizedFieldLemmas
-- where no fault is left, none was noted
pub mod BeforeLemmas
-- templates call nothing
pub mod FreeLemmas
-- types
pub mod SizedTypeLemmas
-- the scopes of a clause
pub mod DeclaredLemmas
pub mod NestLemmas
-- what properties come to
pub mod FitLemmas
pub mod EndLemmas
-- expressions
pub mod WalkLemmas
-- the clauses of properties
pub mod ClauseLemmas
pub mod SizedTemplateLemmas
-- where calls stand
pub mod SilentLemmas
pub mod CalmLemmas
-- whole expressions
pub mod WholeLemmas
pub mod SizedStmtLemmas
pub mod SizedDeclLemmas
pub mod FormedLemmas
