pub mod RunExamples
pub mod MappingExamples
pub mod EntryExamples
pub mod CacheExamples
